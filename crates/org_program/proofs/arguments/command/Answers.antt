use Rattle.std.proofs.Common.{◌≡◌, ◌∙◌, Some, false, ap, ap₂}
use Rattle.std.proofs.lemmas.Result.{IfOk-weaker}
use Rattle.clap.specs.Words.{Rule, rule_of, with_rule}
use Rattle.clap.specs.declared.builder.action.ArgAction.TheVariants.{SetTrue}
use Rattle.org_program.specs.Words.{adopt_argument, forget_argument, group_argument, whole_argument}
use Rattle.org_program.proofs.arguments.command.Goals as goal

pub returns : goal.returns
returns c =
    let group_own : c.value_name.result.global ≡ false = rw c.value_name.ensures c.option.ensures.own in
    let group_is : rule_of c.value_name.result ≡ group_argument = rw c.value_name.ensures (ap (λ (r : Rule). record r { value_names = 1 }) c.option.ensures.rule) in
    let whole_own : c.action.result.global ≡ false = rw c.action.ensures c.option-2.ensures.own in
    let whole_is : rule_of c.action.result ≡ whole_argument = rw c.action.ensures (ap (λ (r : Rule). record r { action = Some SetTrue }) c.option-2.ensures.rule) in
    let one_is = c.in_ok-arg.ensures.shape c.folder_argument.ensures.own ∙ ap₂ with_rule c.new.ensures.app c.folder_argument.ensures.rule in
    let two_are = c.in_ok-arg-2.ensures.shape c.names_argument.ensures.own ∙ ap₂ with_rule one_is c.names_argument.ensures.rule in
    let three_are = c.in_ok-arg-3.ensures.shape c.names_argument-2.ensures.own ∙ ap₂ with_rule two_are c.names_argument-2.ensures.rule in
    let four_are = c.in_ok-arg-4.ensures.shape c.states_argument.ensures.own ∙ ap₂ with_rule three_are c.states_argument.ensures.rule in
    let five_are = c.in_ok-arg-5.ensures.shape c.states_argument-2.ensures.own ∙ ap₂ with_rule four_are c.states_argument-2.ensures.rule in
    let six_are = c.in_ok-arg-6.ensures.shape group_own ∙ ap₂ with_rule five_are group_is in
    let adopt_own : c.action-2.result.global ≡ false = rw c.action-2.ensures c.option-3.ensures.own in
    let adopt_is : rule_of c.action-2.result ≡ adopt_argument = rw c.action-2.ensures (ap (λ (r : Rule). record r { action = Some SetTrue }) c.option-3.ensures.rule) in
    let forget_own : c.action-3.result.global ≡ false = rw c.action-3.ensures c.option-4.ensures.own in
    let forget_is : rule_of c.action-3.result ≡ forget_argument = rw c.action-3.ensures (ap (λ (r : Rule). record r { action = Some SetTrue }) c.option-4.ensures.rule) in
    let seven_are = c.in_ok-arg-7.ensures.shape whole_own ∙ ap₂ with_rule six_are whole_is in
    let eight_are = c.in_ok-arg-8.ensures.shape adopt_own ∙ ap₂ with_rule seven_are adopt_is in
    IfOk-weaker c.arg-9.result _ _ (λ command adds. adds.shape forget_own ∙ ap₂ with_rule eight_are forget_is) c.arg-9.ensures
