use Rattle.std.proofs.Common.{rules, of_calls, arith, sym, ltb, get_or, length, ◌≡◌, ◌<◌, ◌-◌, ℕ, List}
use Rattle.std.specs.List.{prefix_len}
use Rattle.std.specs.List.Sorted.{IsNonDecreasingBy}
use Rattle.std.proofs.lemmas.Bool.{lt-ltb}
use Rattle.std.proofs.lemmas.List.Sums.{prefix_len_is}
use Rattle.std.proofs.lemmas.List.Sorted.{IsPartitionPoint-from_clause, IsPartitionedBy-ltb}
use Rattle.org_headings.specs.declared.heads.Heading.{Heading}
use Rattle.org_headings.proofs.Edits.{count_at}
use Rattle.org_headings.proofs.heads.starts_before.Goals as goal

pub returns-clause-count : goal.returns-clause-count
returns-clause-count c =
    let parted = IsPartitionedBy-ltb (λ (h : Heading). h.start) _ c.args.position c.requires in
    let point = IsPartitionPoint-from_clause (λ (h : Heading). ltb h.start c.args.position) _ _ c.partition_point.ensures.partitioned parted (λ a r q k. search (rules, of_calls)) in
    count_at (λ (h : Heading). ltb h.start c.args.position) _ _ c.partition_point.ensures.bound point

-- the last one begins before the position, and so do all
all_before : (hs : List Heading) (d : Heading) (position : ℕ) → IsNonDecreasingBy (λ (h : Heading). h.start) hs → 0 < length hs
    → (get_or hs (length hs - 1) d).start < position → length hs ≡ prefix_len (λ (h : Heading). ltb h.start position) hs
all_before hs d position rises some last =
    sym (prefix_len_is (λ (h : Heading). ltb h.start position) hs (length hs) d (omega arith)
    (λ k lt. lt-ltb (get_or hs k d).start position (omega (arith, last, rises k (length hs - 1) d (omega (arith, lt)) (omega (arith, some)))))
    (λ lt. absurd (omega (arith, lt))))

pub returns-then-headings-count-clause-count : goal.returns-then-headings-count-clause-count
returns-then-headings-count-clause-count c = all_before c.args.headings.now _ c.args.position c.requires c.if-count-gt0.true c.if-headings-count.true
