use Rattle.std.specs.Prelude.{IsTrue}
use Rattle.org_meta.specs.Sections.{property_line}
use Rattle.org_meta.proofs.Keeping.{keeps_put, keeps_note, keeps_planning, keeps_opened}
use Rattle.org_meta.proofs.laws.keeps_lines.Goals as goal

pub returns-clause-put : goal.returns-clause-put
returns-clause-put c = λ test name value lines own all. keeps_put (λ l. IsTrue (test l)) name (property_line name value) own.0 own.1.0 own.1.1.0 lines all

pub returns-clause-note : goal.returns-clause-note
returns-clause-note c = λ test note lines own all. keeps_note (λ l. IsTrue (test l)) note lines own all

pub returns-clause-planning : goal.returns-clause-planning
returns-clause-planning c = λ test planning lines own all. keeps_planning (λ l. IsTrue (test l)) planning lines own all

pub returns-clause-opened : goal.returns-clause-opened
returns-clause-opened c = λ test now lines own all. keeps_opened (λ l. IsTrue (test l)) now lines own.0 own.1.0 own.1.1.0 all
