use Rattle.std.proofs.Common.{◌∙◌, ap, List, ℕ, length, arith}
use Rattle.std.specs.Prelude.{nat_eq}
use Rattle.std.specs.Cmp.Lexicographic.{pointwise}
use Rattle.key_chunks.specs.Chunks.{groups_of}
use Rattle.key_chunks.proofs.GroupBytes.{is_found, none_empty, none_other, none_longer}
use Rattle.key_chunks.proofs.reading.key_of.Goals as goal
use Rattle.key_chunks.proofs.reading.key_of.Goals.{then-is_empty-via-then-is_empty, then-is_empty-via-else-is_empty+then-not-is_cut_so}

pub returns-then-groups-gt-MOST_GROUPS-clause-none :
    goal.returns-then-groups-gt-MOST_GROUPS-clause-none
returns-then-groups-gt-MOST_GROUPS-clause-none c = λ id key. none_longer c.in-Some.store.now id c.in-Some.groups.now key c.args.chunks.now c.in-Some.ensures.cases.0 c.if-groups-gt-MOST_GROUPS.true

pub returns-then-is_empty-clause-none : goal.returns-then-is_empty-clause-none
returns-then-is_empty-clause-none c =
    λ id key is.
    elim c.then-is_empty.branch [
      | then-is_empty-via-then-is_empty w ↦ none_empty c.in-Some.store.now id c.in-Some.groups.now c.in_ok-key.key.items key c.args.chunks.now c.in-Some.ensures.cases.0 c.in_ok-key.ensures.bytes (w.if-is_empty.ensures ∙ ap (λ (k : List ℕ). nat_eq (length k) 0) c.as_slice-read.ensures.value) is
      | then-is_empty-via-else-is_empty+then-not-is_cut_so w ↦ none_other c.in-Some.store.now id c.in-Some.groups.now c.in_ok-key.key.items key c.args.chunks.now c.in-Some.ensures.cases.0 c.in_ok-key.ensures.bytes (w.if-not-is_cut_so.ensures ∙ ap (λ (k : List ℕ). pointwise nat_eq (groups_of k) c.in-Some.groups.now) c.as_slice-read.ensures.value) is
    ]

pub returns-clause-found : goal.returns-clause-found
returns-clause-found c =
    is_found c.in-Some.store.now c.in-Some.groups.now c.in_ok-key.key.items c.args.chunks.now c.in-Some.ensures.cases.0 (omega (arith, c.type_inv.chunks 0)) c.in_ok-key.ensures.bytes (c.if-is_empty.ensures ∙ ap (λ (k : List ℕ). nat_eq (length k) 0) c.as_slice-read.ensures.value) c.if-groups-gt-MOST_GROUPS.false
    (c.if-not-is_cut_so.ensures ∙ ap (λ (k : List ℕ). pointwise nat_eq (groups_of k) c.in-Some.groups.now) c.as_slice-read.ensures.value)
