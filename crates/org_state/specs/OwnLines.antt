-- A heading's own lines, as the code has them.
use Rattle.org_outline.specs.Tree.{Document, tree}
use Rattle.org_state.specs.declared.own.OwnLines.{OwnLines}
use Rattle.org_state.specs.Todo.{Own, own_at}

abbrev pub document_of : OwnLines → Document
document_of lines = tree lines.outline.now.text

abbrev pub own_of : OwnLines → Own
own_of lines = own_at (document_of lines) lines.node
