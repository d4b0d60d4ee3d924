use Rattle.std.proofs.Common.{refl, ap, ◌∙◌}
use Rattle.org_move.specs.Inherited.{nonempty}
use Rattle.org_move.proofs.Given.{given_are}
use Rattle.org_move.proofs.properties.properties.Goals as goal

pub returns : goal.returns
returns c = λ states d i now time_is category_is keyword_is path_is tags_is.
    given_are states c.args.file.now now d i c.args.time.now c.args.file.now c.args.category.now _ _ _ time_is refl category_is (c.slice_of.ensures ∙ path_is)
    (c.nonempty.ensures ∙ ap nonempty keyword_is) (c.slice_of-2.ensures ∙ tags_is)
