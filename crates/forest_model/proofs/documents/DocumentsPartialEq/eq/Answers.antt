use Rattle.std.proofs.Common.{◌≡◌, Bool, true, false, ◌&&◌, ◌==◌, List, refl, sym, ap, ◌∙◌}
use Rattle.std.specs.Prelude.{nat_eq}
use Rattle.std.specs.Cmp.Lexicographic.{pointwise}
use Rattle.std.specs.FinMap as finite
use Rattle.forest_model.specs.Documents.{Entry, is_same_key, is_same_entry, is_same_map}
use Rattle.forest_model.specs.Key.{key_cmp}
use Rattle.forest_model.proofs.FiniteMaps.{entries_are}
use Rattle.forest_model.proofs.KeyOrder.{keys_total}
use Rattle.forest_model.proofs.documents.DocumentsPartialEq.eq.Goals as goal

grouped : (a b c : Bool) → (a && (b && c)) ≡ ((a && b) && c)
grouped true b c = refl
grouped false b c = refl

-- the derived test of a document groups the other way
same_entries : (es fs : List Entry) → pointwise (λ (p q : Entry). is_same_key p.0 q.0 && ((p.1.seq == q.1.seq) && (pointwise nat_eq p.1.meta q.1.meta && pointwise nat_eq p.1.body q.1.body))) es fs ≡ pointwise is_same_entry es fs
same_entries es fs =
    ap (λ (E : Entry → Entry → Bool). pointwise E es fs)
    (λ i p q. is_same_key p.0 q.0 && grouped (p.1.seq == q.1.seq) (pointwise nat_eq p.1.meta q.1.meta) (pointwise nat_eq p.1.body q.1.body) i)

pub returns : goal.returns
returns c =
    let here = c.self.inside.entries.entries in
    let there = c.other.inside.entries.entries in
    c.eq.ensures ∙ same_entries here there ∙ ap (λ es. pointwise is_same_entry es there) (sym (entries_are keys_total here c.len-here.ensures.ordered))
    ∙ ap (λ es. pointwise is_same_entry (finite.entries (finite.from_entries {R = key_cmp} here)) es) (sym (entries_are keys_total there c.len-there.ensures.ordered))
    ∙ ap (λ m. is_same_map m (finite.from_entries {R = key_cmp} there)) c.self.view_is ∙ ap (λ m. is_same_map c.args.self.now m) c.other.view_is
