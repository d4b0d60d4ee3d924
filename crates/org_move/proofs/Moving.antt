-- What a refile that succeeds has found and made.
use Rattle.std.proofs.Common.{◌≡◌, ℕ, ◌+◌, ◌<◌, ◌≤◌, leb, ltb, Bool, true, false, List, Some, Ok, Err, refl, sym, ap, arith, inl, inr}
use Rattle.std.specs.Prelude.{Result, if◌then◌else◌}
use Rattle.std.proofs.lemmas.Bool.{cases_Bool}
use Rattle.std.proofs.lemmas.Bool.Decides.{nat_tests}
use Rattle.org_outline.specs.declared.steps.Step.{Step}
use Rattle.org_outline.specs.declared.moves.Place.{Place}
use Rattle.org_outline.specs.declared.paths.PathFault.{PathFault}
use Rattle.org_outline.specs.States.{Keywords}
use Rattle.org_outline.specs.Tree.{Document, node_at, node_count}
use Rattle.org_outline.specs.Moves.{insert, take}
use Rattle.org_outline.specs.Numbers.{size_of, number_without}
use Rattle.org_outline.specs.Paths.{find_path}
use Rattle.org_outline.proofs.Found.{found_in}
use Rattle.org_outline.proofs.Taking.{size_of-room, count-without}
use Rattle.org_fault.specs.declared.refusal.Refusal.{Refusal}
use Rattle.org_fault.specs.declared.refusal.Refusal.TheVariants.{InsideItself}
use Rattle.org_move.specs.Refile.{with_found, is_inside, moved, refile_within, Moved, refile_across}

-- the parts of a refile within a document that succeeds
pub record Within (place : Place) (d new : Document) : Type 0 where
  pub node : ℕ
  pub parent : ℕ
  pub node_in : node < node_count d
  pub parent_in : parent < node_count d
  pub outside : is_inside d node parent ≡ false
  pub is : moved node parent place d ≡ new

-- the parts of one across two documents
pub record Across (place : Place) (source target : Document) (new : Moved) : Type 0 where
  pub node : ℕ
  pub parent : ℕ
  pub node_in : node < node_count source
  pub parent_in : parent < node_count target
  pub source_is : take node source ≡ new.source
  pub target_is : insert (Some parent) place (node_at source node).node target ≡ new.target

-- what was found, where something was made of it
pub found_of : {A : Type 0} (r : Result ℕ PathFault) (make : ℕ → Result A Refusal) (x : A) → with_found r make ≡ Ok x → (i : ℕ) × (r ≡ Ok i) × (make i ≡ Ok x)
found_of (Ok i) make x is = (i, refl, is)
found_of (Err fault) make x is = absurd cc

moved_of : (place : Place) (d new : Document) (i p : ℕ) (b : Bool) → b ≡ is_inside d i p → i < node_count d → p < node_count d
    → ◌≡◌ {A = Result Document Refusal} (if b then Err InsideItself else Ok (moved i p place d)) (Ok new) → Within place d new
moved_of place d new i p true b i_in p_in is = absurd cc
moved_of place d new i p false b i_in p_in is =
    record { node = i; parent = p; node_in = i_in; parent_in = p_in; outside = sym b; is = cc }

pub within_of : (states : Keywords) (path to : List Step) (place : Place) (d new : Document)
    → refile_within states path to place d ≡ Ok new → Within place d new
within_of states path to place d new is =
    let first = found_of (find_path states d path) _ new is in
    let second = found_of (find_path states d to) _ new first.2 in
    moved_of place d new first.0 second.0 (is_inside d first.0 second.0) refl
    (found_in states d path first.0 first.1) (found_in states d to second.0 second.1) second.2

pub across_of : (states : Keywords) (path : List Step) (source : Document) (there : Keywords) (to : List Step) (target : Document) (place : Place) (new : Moved)
    → refile_across states path source there to target place ≡ Ok new → Across place source target new
across_of states path source there to target place new is =
    let first = found_of (find_path states source path) _ new is in
    let second = found_of (find_path there target to) _ new first.2 in
    let same : record { source = take first.0 source; target = insert (Some second.0) place (node_at source first.0).node target } ≡ new = cc in
    record {
      node = first.0;
      parent = second.0;
      node_in = found_in states source path first.0 first.1;
      parent_in = found_in there target to second.0 second.1;
      source_is = ap (λ (m : Moved). m.source) same;
      target_is = ap (λ (m : Moved). m.target) same;
    }

-- the number of a heading outside the subtree that is taken out
pub number_in : (d : Document) (i p : ℕ) → i < node_count d → p < node_count d → is_inside d i p ≡ false
    → number_without i (size_of d i) p < node_count (take i d)
number_in d i p i_in p_in outside =
    let room = size_of-room d i i_in in
    let count = count-without i d i_in in
    elim (cases_Bool (ltb p i)) [
      | inl e ↦ rw e (let low : p < i = grind (arith, nat_tests) in omega (arith, low, room, count))
      | inr e ↦ rw e (
          let low : i ≤ p = grind (arith, nat_tests) in
          let le : leb i p ≡ true = grind (arith, nat_tests) in
          let test : ltb p (i + size_of d i) ≡ false = rw le at outside in
          let high : i + size_of d i ≤ p = grind (arith, nat_tests) in
          omega (arith, high, p_in, count))
    ]
