use Rattle.std.proofs.Common.{◌≡◌, ℕ, false, T, List, map, rules, ap, sym, ◌∙◌, subst}
use Rattle.std.specs.FinMap as finite
use Rattle.forest_model.specs.Key.{key_cmp}
use Rattle.forest_model.specs.declared.documents.DocKey.{DocKey}
use Rattle.forest_model.specs.declared.stored.Entry.{Entry}
use Rattle.wal_index.specs.Index.{Index, Map, key_entry}
use Rattle.wal_index.specs.declared.by_number.Numbered.{Numbered}
use Rattle.wal_index.specs.Merged.{all_pairs}
use Rattle.wal_index.specs.Numbers.{number_cmp, marks, holds, has}
use Rattle.wal_index.specs.Rows.{held, pairs}
use Rattle.wal_index.proofs.Moved.{copied_pairs}
use Rattle.wal_index.proofs.TwoLists.{no_recent, rows_settled, rows_sorted}
use Rattle.wal_index.proofs.index.WalIndex.copy.Goals as goal

pub invariant_of-result : goal.invariant_of-result
invariant_of-result c =
    let settled = c.self.inside.rows.settled.items in
    let recent = c.self.inside.rows.recent.items in
    let copied : held c.in_ok-settled.settled.items ≡ map key_entry (all_pairs settled recent) = c.in_ok-settled.ensures.rows ∙ ap (λ rows. map key_entry (all_pairs rows c.as_slice-2.result.now)) c.as_slice.ensures.value ∙ ap (λ rows. map key_entry (all_pairs settled rows)) c.as_slice-2.ensures.value in
    let made : pairs c.of_settled.result.settled.items ≡ all_pairs settled recent = ap pairs c.of_settled.ensures.settled ∙ copied_pairs c.in_ok-settled.settled.items (all_pairs settled recent) copied in
    let same : all_pairs c.of_settled.result.settled.items c.of_settled.result.recent.items ≡ all_pairs settled recent = no_recent c.of_settled.result.settled.items c.of_settled.result.recent.items c.of_settled.ensures.recent ∙ made in
    let numbers : marks c.in_ok-numbers.numbers.items ≡ marks c.self.inside.numbers.items = c.in_ok-numbers.ensures.numbers ∙ ap marks c.as_slice-3.ensures.value in (
      rows_settled c.of_settled.result.settled.items c.of_settled.result.recent.items c.of_settled.ensures.recent (subst (λ (es : List (DocKey × Entry)). T (finite.is_sorted key_cmp es)) (sym made) (rows_sorted settled recent c.self.invariant.0)),
      search rules,
      λ wrong. cc,
      subst (λ (ms : List (Numbered × Unit {0})). T (finite.is_sorted number_cmp ms)) (sym numbers) c.self.invariant.3,
      search rules,
      λ n. ap (λ ms. holds ms n) numbers ∙ c.self.invariant.5 n ∙ ap (λ es. has es n) (sym same),
    )

pub returns-clause-value : goal.returns-clause-value
returns-clause-value c =
    let settled = c.self.inside.rows.settled.items in
    let recent = c.self.inside.rows.recent.items in
    let copied : held c.in_ok-settled.settled.items ≡ map key_entry (all_pairs settled recent) = c.in_ok-settled.ensures.rows ∙ ap (λ rows. map key_entry (all_pairs rows c.as_slice-2.result.now)) c.as_slice.ensures.value ∙ ap (λ rows. map key_entry (all_pairs settled rows)) c.as_slice-2.ensures.value in
    let made : pairs c.of_settled.result.settled.items ≡ all_pairs settled recent = ap pairs c.of_settled.ensures.settled ∙ copied_pairs c.in_ok-settled.settled.items (all_pairs settled recent) copied in
    let same : all_pairs c.of_settled.result.settled.items c.of_settled.result.recent.items ≡ all_pairs settled recent = no_recent c.of_settled.result.settled.items c.of_settled.result.recent.items c.of_settled.ensures.recent ∙ made in
    let with_map : Map → Index = λ m. record { entries = m; gone = c.in_ok-gone.gone.items; room = 0; may_go = false } in
    let with_gone : List ℕ → Index = λ gone. record { entries = finite.from_sorted (all_pairs settled recent); gone = gone; room = 0; may_go = false } in
    ap with_map (ap (finite.from_sorted {R = key_cmp}) same)
    ∙ ap with_gone (c.in_ok-gone.ensures.items ∙ c.as_slice-4.ensures.value)
    ∙ ap (λ (x : Index). record x { room = 0; may_go = false }) c.self.view_is
