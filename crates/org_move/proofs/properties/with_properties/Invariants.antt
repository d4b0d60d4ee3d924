use Rattle.std.proofs.Common.{◌≡◌, take}
use Rattle.org_splice.specs.Lines.{terminated}
use Rattle.org_meta.specs.Sections.{parts_of}
use Rattle.org_move.specs.Archive.{put_each}
use Rattle.org_move.specs.Given.{given}
use Rattle.org_move.proofs.properties.with_properties.Given as goal

abbrev pub invariant-loop-property : goal.invariant-loop-property
invariant-loop-property l =
    record {
      parts : parts_of l.new.items ≡ put_each (given (take l.property-index l.properties)) (parts_of l.section.bytes.now);
      stays_terminated : terminated l.new.items ≡ l.new.items;
    }
