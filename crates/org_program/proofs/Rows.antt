-- The words of command lines, and what they give.
use Rattle.std.proofs.Common.{◌≡◌, refl, ℕ, true, false, List, [], ◌∷◌, None, Some, codes}
use Rattle.clap.specs.Words.{fault_of}
use Rattle.clap.proofs.OnLiterals.{clap_on_literals}
use Rattle.clap.specs.declared.error.kind.ErrorKind.TheVariants.{UnknownArgument, MissingRequiredArgument, ArgumentConflict, DisplayHelp}
use Rattle.org_program.specs.Words.{command_line, adopt_in, done_in, folder_in, forget_in, group_in, new_in, only_in, todo_in, whole_in}
use Rattle.org_program.specs.Lists.{between_commas}

abbrev two_new : List (List ℕ)
two_new = codes "orgstore" ∷ codes "notes" ∷ codes "--new" ∷ codes "a.org" ∷ codes "--new=b.org" ∷ []

abbrev in_twos : List (List ℕ)
in_twos = codes "orgstore" ∷ codes "--group" ∷ codes "2" ∷ codes "notes" ∷ []

abbrev with_states : List (List ℕ)
with_states = codes "orgstore" ∷ codes "--done=DONE,GIVEN-UP" ∷ codes "notes" ∷ codes "--todo" ∷ codes "TODO,WAIT" ∷ []

abbrev without_a_state : List (List ℕ)
without_a_state = codes "orgstore" ∷ codes "notes" ∷ codes "--todo" ∷ [] ∷ []

two_new_taken : fault_of command_line two_new ≡ []
unfolding clap_on_literals
two_new_taken = refl

two_new_folder : folder_in two_new ≡ codes "notes"
unfolding clap_on_literals
two_new_folder = refl

two_new_names : new_in two_new ≡ codes "a.org" ∷ codes "b.org" ∷ []
unfolding clap_on_literals
two_new_names = refl

no_group : group_in two_new ≡ None
unfolding clap_on_literals
no_group = refl

in_twos_taken : fault_of command_line in_twos ≡ []
unfolding clap_on_literals
in_twos_taken = refl

in_twos_group : group_in in_twos ≡ Some (codes "2")
unfolding clap_on_literals
in_twos_group = refl

no_todo : todo_in two_new ≡ codes "TODO"
unfolding clap_on_literals
no_todo = refl

no_done : done_in two_new ≡ codes "DONE"
unfolding clap_on_literals
no_done = refl

with_states_taken : fault_of command_line with_states ≡ []
unfolding clap_on_literals
with_states_taken = refl

with_states_todo : todo_in with_states ≡ codes "TODO,WAIT"
unfolding clap_on_literals
with_states_todo = refl

with_states_done : done_in with_states ≡ codes "DONE,GIVEN-UP"
unfolding clap_on_literals
with_states_done = refl

without_a_state_taken : fault_of command_line without_a_state ≡ []
unfolding clap_on_literals
without_a_state_taken = refl

without_a_state_todo : todo_in without_a_state ≡ []
unfolding clap_on_literals
without_a_state_todo = refl

two_words : between_commas (codes "TODO,WAIT") ≡ codes "TODO" ∷ codes "WAIT" ∷ []
two_words = refl

comma_at_the_end : between_commas (codes "TODO,") ≡ codes "TODO" ∷ [] ∷ []
comma_at_the_end = refl

empty_list : between_commas [] ≡ [] ∷ []
empty_list = refl

no_folder : fault_of command_line (codes "orgstore" ∷ []) ≡ MissingRequiredArgument ∷ []
unfolding clap_on_literals
no_folder = refl

two_folders : fault_of command_line (codes "orgstore" ∷ codes "notes" ∷ codes "more" ∷ []) ≡ UnknownArgument ∷ []
unfolding clap_on_literals
two_folders = refl

two_groups : fault_of command_line (codes "orgstore" ∷ codes "notes" ∷ codes "--group=1" ∷ codes "--group=1" ∷ []) ≡ ArgumentConflict ∷ []
unfolding clap_on_literals
two_groups = refl

two_lists : fault_of command_line (codes "orgstore" ∷ codes "notes" ∷ codes "--todo=A" ∷ codes "--todo=B" ∷ []) ≡ ArgumentConflict ∷ []
unfolding clap_on_literals
two_lists = refl

help : fault_of command_line (codes "orgstore" ∷ codes "--help" ∷ []) ≡ DisplayHelp ∷ []
unfolding clap_on_literals
help = refl

abbrev two_only : List (List ℕ)
two_only = codes "orgstore" ∷ codes "--only=a.org" ∷ codes "notes" ∷ codes "--only" ∷ codes "b.org" ∷ codes "--whole" ∷ []

two_only_taken : fault_of command_line two_only ≡ []
unfolding clap_on_literals
two_only_taken = refl

two_only_names : only_in two_only ≡ codes "a.org" ∷ codes "b.org" ∷ []
unfolding clap_on_literals
two_only_names = refl

none_only : only_in two_new ≡ []
unfolding clap_on_literals
none_only = refl

is_whole : whole_in two_only ≡ true
unfolding clap_on_literals
is_whole = refl

isnt_whole : whole_in two_new ≡ false
unfolding clap_on_literals
isnt_whole = refl

abbrev forgotten : List (List ℕ)
forgotten = codes "orgstore" ∷ codes "--forget" ∷ codes "notes" ∷ []

forgotten_taken : fault_of command_line forgotten ≡ []
unfolding clap_on_literals
forgotten_taken = refl

is_forgotten : forget_in forgotten ≡ true
unfolding clap_on_literals
is_forgotten = refl

isnt_adopted : adopt_in forgotten ≡ false
unfolding clap_on_literals
isnt_adopted = refl
