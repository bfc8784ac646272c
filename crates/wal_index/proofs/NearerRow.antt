-- The nearer of the nearest rows of two lists.
use Rattle.std.proofs.Common.{◌≡◌, ℕ, Bool, true, false, cond, ◌&&◌, List, [], ◌∷◌, refl, sym, ap, ◌∙◌}
use Rattle.std.specs.Prelude.{Option, Some, None, IfSome, ◌==◌, find, reverse, if◌then◌else◌}
use Rattle.std.specs.Global.{Box}
use Rattle.std.specs.Option.{option_map}
use Rattle.std.specs.Cmp.{nat_cmp_total, tied_itself}
use Rattle.std.specs.Cmp.Lexicographic.{slice_cmp}
use Rattle.std.specs.Ordering.{nat_cmp, is_lt, is_gt, ordering_then}
use Rattle.std.specs.declared.cmp.Ordering.{Ordering}
use Rattle.std.proofs.lemmas.Bool.{eqb-true}
use Rattle.forest_model.specs.Key.{key_cmp}
use Rattle.forest_model.specs.declared.documents.DocKey.{DocKey}
use Rattle.forest_model.specs.declared.stored.Entry.{Entry}
use Rattle.forest_model.specs.declared.stored.KeyEntry.{KeyEntry}
use Rattle.wal_index.specs.Index.{key_and_entry, is_past, nearest_of}
use Rattle.wal_index.specs.Merged.{nearer, AreRows, all_pairs}
use Rattle.wal_index.specs.Rows.{pairs}
use Rattle.wal_index.proofs.MergedEnds.{nearest_merged}
use Rattle.wal_index.proofs.Orders.{keys_total, exact_keys}

passes : {X : Type 0} (p : X → Bool) (xs : List X) → IfSome (find p xs) (λ x. p x ≡ true)
passes p [] = tt
passes p (x ∷ xs) = elim (p x) as (λ b. p x ≡ b → IfSome (cond b (Some x) (find p xs)) (λ y. p y ≡ true)) [ true ↦ λ t. t | false ↦ λ t. passes p xs ] refl

left_holds : (a b : Bool) → (a && b) ≡ true → a ≡ true
left_holds true b h = refl
left_holds false b h = cc

by_key_alone : (a b : DocKey) → a.store ≡ b.store → key_cmp a b ≡ slice_cmp nat_cmp a.key b.key
by_key_alone a b same =
    ap (λ (s : ℕ). ordering_then (nat_cmp s b.store) (slice_cmp nat_cmp a.key b.key)) same
    ∙ ap (λ r. ordering_then r (slice_cmp nat_cmp a.key b.key)) (tied_itself nat_cmp_total b.store)

told : (up : Bool) (r s : Ordering) (a b : DocKey × Entry) → r ≡ s
    → (if (if up then is_lt s else is_gt s) then Some (key_and_entry a) else Some (key_and_entry b)) ≡ option_map key_and_entry (if (if up then is_lt r else is_gt r) then Some a else Some b)
told up r s a b is =
    ap (λ (t : Ordering). if (if up then is_lt t else is_gt t) then Some (key_and_entry a) else Some (key_and_entry b)) (sym is)
    ∙ elim (if up then is_lt r else is_gt r) as (λ b0. (if b0 then Some (key_and_entry a) else Some (key_and_entry b)) ≡ option_map key_and_entry (if b0 then Some a else Some b)) [ true ↦ refl | false ↦ refl ]

nearer_told : (up : Bool) (store : ℕ) (a b : Option (DocKey × Entry)) → IfSome a (λ e. (e.0.store == store) ≡ true) → IfSome b (λ e. (e.0.store == store) ≡ true)
    → nearer (slice_cmp nat_cmp) up (option_map key_and_entry a) (option_map key_and_entry b) ≡ option_map key_and_entry (nearer key_cmp up a b)
nearer_told up store None b g h = refl
nearer_told up store (Some a) None g h = refl
nearer_told up store (Some a) (Some b) g h = told up (key_cmp a.0 b.0) (slice_cmp nat_cmp a.0.key b.0.key) a b (by_key_alone a.0 b.0 (eqb-true a.0.store store g ∙ sym (eqb-true b.0.store store h)))

of_its_store : (with up : Bool) (q : DocKey) (o : Option (DocKey × Entry)) → IfSome o (λ e. ((e.0.store == q.store) && is_past with up q e.0) ≡ true) → IfSome o (λ e. (e.0.store == q.store) ≡ true)
of_its_store with up q None h = tt
of_its_store with up q (Some e) h = left_holds (e.0.store == q.store) (is_past with up q e.0) h

pub rows_nearest : (with up : Bool) (q : DocKey) (settled recent : List (Box KeyEntry)) → AreRows settled recent
    → nearer (slice_cmp nat_cmp) up (option_map key_and_entry (nearest_of with up (pairs settled) q)) (option_map key_and_entry (nearest_of with up (pairs recent) q)) ≡ option_map key_and_entry (nearest_of with up (all_pairs settled recent) q)
rows_nearest with up q settled recent rows =
    let p : DocKey × Entry → Bool = λ e. (e.0.store == q.store) && is_past with up q e.0 in
    nearer_told up q.store (nearest_of with up (pairs settled) q) (nearest_of with up (pairs recent) q)
    (of_its_store with up q (nearest_of with up (pairs settled) q) (passes p (if up then pairs settled else reverse (pairs settled))))
    (of_its_store with up q (nearest_of with up (pairs recent) q) (passes p (if up then pairs recent else reverse (pairs recent))))
    ∙ ap (option_map key_and_entry) (sym (nearest_merged keys_total exact_keys (λ k. (k.store == q.store) && is_past with up q k) up (pairs settled) (pairs recent) rows.first_sorted rows.second_sorted rows.apart))
