-- The numbers of the newest entries.
use Rattle.std.proofs.Common.{◌≡◌, ℕ, Bool, true, false, cond, T, List, [], ◌∷◌, refl, filter, sym, ap, ◌∙◌, subst}
use Rattle.std.specs.Prelude.{Option, Some, None, not, is_some, ◌==◌}
use Rattle.std.specs.Option.{option_map_or}
use Rattle.std.proofs.lemmas.Bool.{eqb-true, eqb-false}
use Rattle.forest_model.specs.Key.{key_cmp}
use Rattle.forest_model.specs.declared.documents.DocKey.{DocKey}
use Rattle.forest_model.specs.declared.stored.Entry.{Entry}
use Rattle.forest_model.specs.declared.stored.KeyEntry.{KeyEntry}
use Rattle.std.specs.Global.{Box}
use Rattle.std.specs.Cmp.{tied_itself, Equal-is}
use Rattle.std.specs.FinMap as finite
use Rattle.std.specs.FinMap.Entries.{find-where_key, find-put, is_sorted-where_key, is_sorted-put}
use Rattle.std.specs.Ordering.{is_eq}
use Rattle.wal_index.specs.declared.by_number.Numbered.{Numbered}
use Rattle.wal_index.specs.Numbers.{number_cmp, numbers_at, mark_of, marks, holds, has, Agree, without_older}
use Rattle.wal_index.specs.Index.{key_at, has_number}
use Rattle.wal_index.proofs.Orders.{exact_numbers, numbers_total, exact_keys, keys_total}

-- numbers that were filtered
pub marks_filter : (p : Numbered → Bool) (numbers kept : List (Box Numbered)) → kept ≡ filter (λ r. p r.value) numbers → marks kept ≡ filter (λ e. p e.0) (marks numbers)
marks_filter p numbers kept is = ap marks is ∙ each numbers
  where
    each : (rs : List (Box Numbered)) → marks (filter (λ r. p r.value) rs) ≡ filter (λ e. p e.0) (marks rs)
    each [] = refl
    each (r ∷ rs) = elim (p r.value) as (λ b. marks (cond b (r ∷ filter (λ r. p r.value) rs) (filter (λ r. p r.value) rs)) ≡ cond b (mark_of r ∷ filter (λ e. p e.0) (marks rs)) (filter (λ e. p e.0) (marks rs))) [
      | true ↦ ap (λ es. mark_of r ∷ es) (each rs)
      | false ↦ each rs
    ]

-- ---- a number is that of a newest entry

number_is : (a b : Numbered) → a.store ≡ b.store → a.seq ≡ b.seq → a.key ≡ b.key → a ≡ b
number_is a b s n k = ap (λ (x : ℕ). numbers_at x a.seq a.key) s ∙ ap (λ (x : ℕ). numbers_at b.store x a.key) n ∙ ap (numbers_at b.store b.seq) k

pub same_number : (a b : Numbered) → is_eq (number_cmp a b) ≡ true → a ≡ b
same_number a b h = exact_numbers a b ((Equal-is (number_cmp a b)).0 h)

ties : (a b : Numbered) → a ≡ b → is_eq (number_cmp a b) ≡ true
ties a b e = ap (λ (n : Numbered). is_eq (number_cmp a n)) (sym e) ∙ ap is_eq (tied_itself numbers_total a)

no_tie : (a b : Numbered) → ((a ≡ b) → ⊥) → is_eq (number_cmp a b) ≡ false
no_tie a b apart = elim (is_eq (number_cmp a b)) as (λ t. is_eq (number_cmp a b) ≡ t → t ≡ false) [ true ↦ λ t. absurd (apart (same_number a b t)) | false ↦ λ t. refl ] refl

-- without one number the others are held as before
pub held_without : (old n : Numbered) (ns : List (Numbered × Unit {0})) → holds (filter (λ m. not (is_eq (number_cmp old m.0))) ns) n ≡ cond (is_eq (number_cmp old n)) false (holds ns n)
held_without old n ns =
    ap is_some (find-where_key number_cmp (λ m. not (is_eq (number_cmp old m))) n (λ x t. ap (λ m. not (is_eq (number_cmp old m))) (sym (exact_numbers n x t))) ns)
    ∙ elim (is_eq (number_cmp old n)) as (λ b. is_some (cond (not b) (finite.find number_cmp n ns) None) ≡ cond b false (holds ns n)) [ true ↦ refl | false ↦ refl ]

-- with one number more
pub held_with : (k n : Numbered) (ns : List (Numbered × Unit {0})) → holds (finite.put number_cmp k tt ns) n ≡ cond (is_eq (number_cmp n k)) true (holds ns n)
held_with k n ns =
    ap is_some (find-put number_cmp numbers_total n k tt ns)
    ∙ elim (is_eq (number_cmp n k)) as (λ b. is_some (cond b (Some tt) (finite.find number_cmp n ns)) ≡ cond b true (holds ns n)) [ true ↦ refl | false ↦ refl ]

-- ---- a newer entry of a key

has_with : (q : DocKey) (entry : Entry) (es : List (DocKey × Entry)) (n : Numbered) → has (finite.put key_cmp q entry es) n ≡ cond (is_eq (key_cmp (key_at n.store n.key) q)) (entry.seq == n.seq) (has es n)
has_with q entry es n =
    ap (λ (o : Option Entry). option_map_or (λ e. e.seq == n.seq) o false) (find-put key_cmp keys_total (key_at n.store n.key) q entry es)
    ∙ elim (is_eq (key_cmp (key_at n.store n.key) q)) as (λ b. option_map_or (λ e. e.seq == n.seq) (cond b (Some entry) (finite.find key_cmp (key_at n.store n.key) es)) false ≡ cond b (entry.seq == n.seq) (has es n)) [ true ↦ refl | false ↦ refl ]

-- the number of the entry before isn't held any more
older_gone : (es : List (DocKey × Entry)) (ns : List (Numbered × Unit {0})) (store : ℕ) (key : List ℕ) (older : Option Entry) (n : Numbered) → Agree es ns → older ≡ finite.find key_cmp (key_at store key) es
    → n.store ≡ store → n.key ≡ key → holds (without_older older store key ns) n ≡ false
older_gone es ns store key None n agree is store_is key_is =
    let at : finite.find key_cmp (key_at n.store n.key) es ≡ None = ap (λ (s : ℕ). finite.find key_cmp (key_at s n.key) es) store_is ∙ ap (λ (k : List ℕ). finite.find key_cmp (key_at store k) es) key_is ∙ sym is in
    agree n ∙ ap (λ (o : Option Entry). option_map_or (λ e. e.seq == n.seq) o false) at
older_gone es ns store key (Some e) n agree is store_is key_is =
    let at : finite.find key_cmp (key_at n.store n.key) es ≡ Some e = ap (λ (s : ℕ). finite.find key_cmp (key_at s n.key) es) store_is ∙ ap (λ (k : List ℕ). finite.find key_cmp (key_at store k) es) key_is ∙ sym is in
    let old = numbers_at store e.seq key in
    let held : holds ns n ≡ (e.seq == n.seq) = agree n ∙ ap (λ (o : Option Entry). option_map_or (λ e. e.seq == n.seq) o false) at in
    held_without old n ns ∙ elim (is_eq (number_cmp old n)) as (λ b. is_eq (number_cmp old n) ≡ b → cond b false (holds ns n) ≡ false) [
      | true ↦ λ t. refl
      | false ↦ λ t. held ∙ elim (e.seq == n.seq) as (λ b. (e.seq == n.seq) ≡ b → b ≡ false) [
        | true ↦ λ s. let wrong : true ≡ false = sym (ties old n (number_is old n (sym store_is) (eqb-true e.seq n.seq s) (sym key_is))) ∙ t in cc
        | false ↦ λ s. refl
      ] refl
    ] refl

-- numbers of other keys stay
others_held : (ns : List (Numbered × Unit {0})) (store : ℕ) (key : List ℕ) (older : Option Entry) (n : Numbered) → ((key_at n.store n.key ≡ key_at store key) → ⊥) → holds (without_older older store key ns) n ≡ holds ns n
others_held ns store key None n apart = refl
others_held ns store key (Some e) n apart =
    let old = numbers_at store e.seq key in
    held_without old n ns ∙ ap (λ b. cond b false (holds ns n)) (no_tie old n (λ same. apart (ap (λ (m : Numbered). key_at m.store m.key) (sym same))))

pub agree_put : (es : List (DocKey × Entry)) (ns : List (Numbered × Unit {0})) (store : ℕ) (key : List ℕ) (entry : Entry) (older : Option Entry) → Agree es ns → older ≡ finite.find key_cmp (key_at store key) es
    → Agree (finite.put key_cmp (key_at store key) entry es) (finite.put number_cmp (numbers_at store entry.seq key) tt (without_older older store key ns))
agree_put es ns store key entry older agree is n =
    let k = numbers_at store entry.seq key in
    let q = key_at store key in
    let rest = without_older older store key ns in
    held_with k n rest
    ∙ elim (is_eq (key_cmp (key_at n.store n.key) q)) as (λ b. is_eq (key_cmp (key_at n.store n.key) q) ≡ b → cond (is_eq (number_cmp n k)) true (holds rest n) ≡ cond b (entry.seq == n.seq) (has es n)) [
      | true ↦ λ t.
          let same : key_at n.store n.key ≡ q = exact_keys (key_at n.store n.key) q ((Equal-is (key_cmp (key_at n.store n.key) q)).0 t) in
          let store_is : n.store ≡ store = ap (λ (d : DocKey). d.store) same in
          let key_is : n.key ≡ key = ap (λ (d : DocKey). d.key) same in
          elim (entry.seq == n.seq) as (λ b. (entry.seq == n.seq) ≡ b → cond (is_eq (number_cmp n k)) true (holds rest n) ≡ b) [
            | true ↦ λ s. ap (λ b. cond b true (holds rest n)) (ties n k (number_is n k store_is (sym (eqb-true entry.seq n.seq s)) key_is))
            | false ↦ λ s. ap (λ b. cond b true (holds rest n)) (no_tie n k (λ e. eqb-false entry.seq n.seq s (ap (λ (m : Numbered). m.seq) (sym e)))) ∙ older_gone es ns store key older n agree is store_is key_is
          ] refl
      | false ↦ λ t.
          let apart : (key_at n.store n.key ≡ q) → ⊥ = λ e. let wrong : true ≡ false = sym (ap is_eq (tied_itself keys_total q)) ∙ ap (λ (d : DocKey). is_eq (key_cmp d q)) (sym e) ∙ t in cc in
          ap (λ b. cond b true (holds rest n)) (no_tie n k (λ e. apart (ap (λ (m : Numbered). key_at m.store m.key) e))) ∙ others_held ns store key older n apart ∙ agree n
    ] refl
    ∙ sym (has_with q entry es n)

-- without the entries of a store
pub agree_without : (es : List (DocKey × Entry)) (ns : List (Numbered × Unit {0})) (store : ℕ) → Agree es ns → Agree (filter (λ e. not (e.0.store == store)) es) (filter (λ m. not (m.0.store == store)) ns)
agree_without es ns store agree n =
    ap is_some (find-where_key number_cmp (λ m. not (m.store == store)) n (λ x t. ap (λ (m : Numbered). not (m.store == store)) (sym (exact_numbers n x t))) ns)
    ∙ elim (not (n.store == store)) as (λ b. is_some (cond b (finite.find number_cmp n ns) None) ≡ option_map_or (λ e. e.seq == n.seq) (cond b (finite.find key_cmp (key_at n.store n.key) es) None) false) [ true ↦ agree n | false ↦ refl ]
    ∙ sym (ap (λ (o : Option Entry). option_map_or (λ e. e.seq == n.seq) o false) (find-where_key key_cmp (λ d. not (d.store == store)) (key_at n.store n.key) (λ x t. ap (λ (d : DocKey). not (d.store == store)) (sym (exact_keys (key_at n.store n.key) x t))) es))

pub older_sorted : (older : Option Entry) (store : ℕ) (key : List ℕ) (ns : List (Numbered × Unit {0})) → T (finite.is_sorted number_cmp ns) → T (finite.is_sorted number_cmp (without_older older store key ns))
older_sorted None store key ns sorted = sorted
older_sorted (Some e) store key ns sorted = is_sorted-where_key number_cmp (λ m. not (is_eq (number_cmp (numbers_at store e.seq key) m))) ns sorted

pub number_sorted : (ns ms : List (Numbered × Unit {0})) (k : Numbered) → T (finite.is_sorted number_cmp ns) → ms ≡ finite.put number_cmp k tt ns → T (finite.is_sorted number_cmp ms)
number_sorted ns ms k sorted is = subst (λ (xs : List (Numbered × Unit {0})). T (finite.is_sorted number_cmp xs)) (sym is) (is_sorted-put number_cmp numbers_total k tt ns sorted)

pub both_agree : (es es2 : List (DocKey × Entry)) (ns mid ms : List (Numbered × Unit {0})) (row : KeyEntry) (number : Numbered) (older : Option Entry) (store : ℕ) (key : List ℕ) → Agree es ns
    → number ≡ numbers_at row.store row.entry.seq row.key → store ≡ number.store → key ≡ number.key → older ≡ finite.find key_cmp (key_at row.store row.key) es
    → mid ≡ without_older older store key ns → es2 ≡ finite.put key_cmp (key_at row.store row.key) row.entry es → ms ≡ finite.put number_cmp number tt mid → Agree es2 ms
both_agree es es2 ns mid ms row number older store key agree number_is store_is key_is older_is mid_is es2_is ms_is n =
    let rest : mid ≡ without_older older row.store row.key ns = mid_is ∙ ap (λ (s : ℕ). without_older older s key ns) store_is ∙ ap (λ (k : List ℕ). without_older older number.store k ns) key_is ∙ ap (λ (k : Numbered). without_older older k.store k.key ns) number_is in
    let made : ms ≡ finite.put number_cmp (numbers_at row.store row.entry.seq row.key) tt (without_older older row.store row.key ns) = ms_is ∙ ap (λ (k : Numbered). finite.put number_cmp k tt mid) number_is ∙ ap (finite.put number_cmp (numbers_at row.store row.entry.seq row.key) tt) rest in
    ap (λ (xs : List (Numbered × Unit {0})). holds xs n) made ∙ agree_put es ns row.store row.key row.entry older agree older_is n ∙ ap (λ (xs : List (DocKey × Entry)). has xs n) (sym es2_is)

pub marks_sorted : (ns ms : List (Numbered × Unit {0})) (p : Numbered → Bool) → T (finite.is_sorted number_cmp ns) → ms ≡ filter (λ e. p e.0) ns → T (finite.is_sorted number_cmp ms)
marks_sorted ns ms p sorted is = subst (λ (xs : List (Numbered × Unit {0})). T (finite.is_sorted number_cmp xs)) (sym is) (is_sorted-where_key number_cmp p ns sorted)

pub none_agree : (es : List (DocKey × Entry)) (ns : List (Numbered × Unit {0})) → es ≡ [] → ns ≡ [] → Agree es ns
none_agree es ns no_entry no_number n = ap (λ (xs : List (Numbered × Unit {0})). holds xs n) no_number ∙ sym (ap (λ (xs : List (DocKey × Entry)). has xs n) no_entry)

-- what the numbers tell of the entries
pub number_told : (es : List (DocKey × Entry)) (ns : List (Numbered × Unit {0})) → T (finite.is_sorted key_cmp es) → Agree es ns → (store n : ℕ) (key : List ℕ) → has_number (finite.from_sorted es) store n key ≡ holds ns (numbers_at store n key)
number_told es ns sorted agree store n key = ap (λ (o : Option Entry). option_map_or (λ e. e.seq == n) o false) (finite.get-from_sorted key_cmp es (key_at store key) sorted) ∙ sym (agree (numbers_at store n key))
