use Rattle.std.proofs.Common.{◌≡◌, ◌<◌, ◌∙◌, ap, ℕ, Option, length, rules}
use Rattle.std.specs.Prelude.{Vec}
use Rattle.std.specs.Global.{Global}
use Rattle.std.specs.Option.{option_map}
use Rattle.std.proofs.lemmas.Result.{IfOk-weaker}
use Rattle.org_disk.specs.Names.{folder_of, last_part, parts}
use Rattle.org_move.specs.Location.{at_end, with_name}
use Rattle.org_move.proofs.Ways.{named_is}
use Rattle.org_move.proofs.locating.file_text.Goals as goal

pub returns : goal.returns
returns c =
    let name = c.args.name.now in
    let text = c.args.text.now in
    let folder = c.in_ok-from_slice-2.field-0.items in
    let way = c.deref.result.now in
    let some : 0 < length text = search rules in
    let from : folder ≡ folder_of name = search rules in
    let by : way ≡ with_name (last_part name) text = c.deref.ensures.value ∙ c.in_ok-way.ensures ∙ ap (λ l. with_name l text) (c.as_bytes-2.ensures.value ∙ c.last_part.ensures.value) in
    IfOk-weaker c.end_of.result (λ (made : Option (Vec ℕ Global)). option_map (λ file. file.items) made ≡ at_end folder (parts way)) _
    (λ made is. is ∙ named_is name text folder way some from by)
    c.end_of.ensures
