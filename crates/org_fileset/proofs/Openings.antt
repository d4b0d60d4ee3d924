-- An opening that hands on what another one answered.
use Rattle.std.specs.Prelude.{ℕ, List, Ok, Err}
use Rattle.org_disk.specs.declared.disk.Disk.{Ghosts}
use Rattle.org_fileset.specs.declared.open.OpenRefused.{OpenRefused}
use Rattle.org_fileset.specs.Opening.{Opens}

module _ {S T D : Type 0} {g : Ghosts D} {given : List (List ℕ)} {before now : D} where
  -- it opened something else over the same disk
  pub opened_as : {set : S} {made : T} → Opens {S = S} g given before now (Ok set) → Opens {S = T} g given before now (Ok made)
  opened_as had = record {
    reopens = λ honest.
        let r = had.reopens honest in
        record { done = r.done; any_moment = r.any_moment; recoverable = r.recoverable; left = r.left; bad = r.bad; idle = r.idle; alone = r.alone };
    refused = tt;
    accounts = had.accounts;
  }

  -- it was refused for the same fault
  pub refused_as : {refused : OpenRefused D} → Opens {S = S} g given before now (Err refused) → Opens {S = T} g given before now (Err refused)
  refused_as had = record {
    reopens = λ honest.
        let r = had.reopens honest in
        record { done = tt; any_moment = r.any_moment; recoverable = r.recoverable; left = r.left; bad = r.bad; idle = r.idle; alone = r.alone };
    refused = had.refused;
    accounts = had.accounts;
  }
