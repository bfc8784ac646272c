-- What look-ups answer, by what a walk found.
use Rattle.std.proofs.Common.{◌≡◌, inl, inr, ℕ, Bool, true, false, List, [], ◌∷◌, refl, sym, ap, ◌∙◌, subst, ◌&&◌}
use Rattle.std.specs.Prelude.{Option, Some, None, nat_lt, ◌==◌, find, if◌then◌else◌}
use Rattle.std.specs.List.{list_all}
use Rattle.std.specs.Option.{option_or, option_map, is_some}
use Rattle.std.proofs.lemmas.Bool.{and_parts, cases_Bool, or_left, eq-eqb, eqb-true, true≢false}
use Rattle.node_page.specs.Nodes.{Entry, rises}
use Rattle.btree_cow.specs.Shelf.{Shelf}
use Rattle.btree_cow.specs.Trees.{is_past, nearest, value_of}
use Rattle.btree_cow.specs.Finds.{Finds, block_of, value_in}
use Rattle.btree_cow.specs.Walks.{EndsAt, GoesOnIn, HasValue, Reaches, ReachesBeside, ReadsNext, ReadsValue, edge}
use Rattle.btree_cow.specs.declared.walk.Place.{Place}
use Rattle.btree_cow.proofs.Finds.{find_down, find_none_down}
use Rattle.btree_cow.proofs.Steps.{none_down}
use Rattle.btree_cow.proofs.Ways.{way_only}

skipped : (x : Entry) (q : ℕ) (b : Bool) (o : Option Entry) → (x.0 == q) ≡ false → value_in (option_or o (if b then Some x else None)) q ≡ value_in o q
skipped x q b (Some e) h = refl
skipped x q true None h = ap (λ (b : Bool). if b then Some x.1 else None) h
skipped x q false None h = refl

-- the nearest entry at or below a chunk has it, or none has it
value_by_nearest : (q : ℕ) (es : List Entry) → rises es ≡ true → value_in (nearest true false es q) q ≡ value_of es q
value_by_nearest q [] rise = refl
value_by_nearest q (x ∷ es) rise =
    let p : Entry → Bool = λ e. is_past true false q e.0 in
    let value : Option Entry → Option ℕ = λ o. option_map (λ (e : Entry). e.1) o in
    let parts = and_parts (list_all (λ (o : Entry). nat_lt x.0 o.0) es) (rises es) rise in
    let down : nearest true false (x ∷ es) q ≡ option_or (nearest true false es q) (if p x then Some x else None) = find_down p (x ∷ []) es in
    elim (cases_Bool (x.0 == q)) [
      | inl same ↦
          let is : x.0 ≡ q = eqb-true x.0 q same in
          let above : list_all (λ (e : Entry). nat_lt q e.0) es ≡ true = subst (λ (n : ℕ). list_all (λ (e : Entry). nat_lt n e.0) es ≡ true) is parts.0 in
          let reached : p x ≡ true = or_left (true && (q == x.0)) (nat_lt x.0 q) (eq-eqb q x.0 (sym is)) in
          ap (λ (o : Option Entry). value_in o q)
          (down ∙ ap (λ (o : Option Entry). option_or o (if p x then Some x else None)) (find_none_down p es (none_down true q es above)) ∙ ap (λ (b : Bool). if b then Some x else None) reached)
          ∙ ap (λ (b : Bool). if b then Some x.1 else None) same
          ∙ sym (ap (λ (b : Bool). value (if b then Some x else find (λ (e : Entry). e.0 == q) es)) same)
      | inr other ↦
          ap (λ (o : Option Entry). value_in o q) down
          ∙ skipped x q (p x) (nearest true false es q) other
          ∙ value_by_nearest q es parts.1
          ∙ sym (ap (λ (b : Bool). value (if b then Some x else find (λ (e : Entry). e.0 == q) es)) other)
    ]

pub value_found : (ok : ℕ → ℕ → Bool) (s : Shelf) (q : ℕ) (entries : List Entry) (entry : Option Entry) (second : Option Place) → Finds ok s true false q entries entry second → value_in entry q ≡ value_of entries q
value_found ok s q entries entry second f = ap (λ (o : Option Entry). value_in o q) f.here ∙ value_by_nearest q f.leaf f.rise ∙ sym f.value

-- ---- on any blocks

none_at_end : (s : Shelf) (q block : ℕ) (entry : Option Entry) → EndsAt s true false q block entry → HasValue s q block (value_in entry q)
none_at_end s q block entry (inl h) = inl (h.0, h.1, ap (λ (o : Option Entry). value_in o q) h.2 ∙ value_by_nearest q h.0 h.1.2.rise)
none_at_end s q block entry (inr h) = inr (h.0, h.1, h.3, ap (λ (o : Option Entry). value_in o q) h.4)

pub reads_value : (s : Shelf) (root : Option ℕ) (at q : ℕ) (entry : Option Entry) (last : Option ℕ) (value : Option ℕ) → root ≡ Some at → ReachesBeside s true false q at entry last → value ≡ value_in entry q → ReadsValue s root q value
reads_value s root at q entry last value is r same =
    subst (λ (o : Option ℕ). ReadsValue s o q value) (sym is)
    (subst (λ (v : Option ℕ). ReadsValue s (Some at) q v) (sym same) (r.links, r.few, r.block, way_only s false q r.links at None r.block last r.way, none_at_end s q r.block entry r.end))

pub reads_next : (s : Shelf) (with up : Bool) (root : Option ℕ) (at q : ℕ) (first : Option Entry) (last : Option ℕ) (entry : Option Entry) → root ≡ Some at → ReachesBeside s with up q at first last → GoesOnIn s up first last entry
    → ReadsNext s with up root q entry
reads_next s with up root at q first last entry is r on = subst (λ (o : Option ℕ). ReadsNext s with up o q entry) (sym is) (first, last, r, on)

pub ends_there : (s : Shelf) (up : Bool) (first : Option Entry) (last : Option ℕ) → is_some first ≡ true → GoesOnIn s up first last first
ends_there s up None last found = absurd (true≢false (sym found))
ends_there s up (Some e) last found = refl

pub ends_for_good : (s : Shelf) (up : Bool) (first : Option Entry) (second : Option Place) → is_some first ≡ false → second ≡ None → GoesOnIn s up first (block_of second) None
ends_for_good s up None second none alone = subst (λ (o : Option Place). GoesOnIn s up None (block_of o) None) (sym alone) refl
ends_for_good s up (Some e) second none alone = absurd (true≢false none)

reaches_only : (s : Shelf) (with up : Bool) (q at : ℕ) (entry : Option Entry) (last : Option ℕ) → ReachesBeside s with up q at entry last → Reaches s with up q at entry
reaches_only s with up q at entry last r =
    record { links = r.links; few = r.few; block = r.block; way = way_only s up q r.links at None r.block last r.way; end = r.end }

pub goes_on : (s mid : Shelf) (with up above : Bool) (q : ℕ) (first : Option Entry) (second : Option Place) (place : Place) (entry : Option Entry) (last : Option ℕ) → is_some first ≡ false → second ≡ Some place
    → mid ≡ s → with ≡ true → above ≡ up → q ≡ edge up → ReachesBeside mid with above q place.at entry last → GoesOnIn s up first (block_of second) entry
goes_on s mid with up above q (Some e) second place entry last none is kept all same at_edge r = absurd (true≢false none)
goes_on s mid with up above q None second place entry last none is kept all same at_edge r =
    let r1 : Reaches mid with above q place.at entry = reaches_only mid with above q place.at entry last r in
    let r2 : Reaches s with above q place.at entry = subst (λ (m : Shelf). Reaches m with above q place.at entry) kept r1 in
    let r3 : Reaches s true above q place.at entry = subst (λ (b : Bool). Reaches s b above q place.at entry) all r2 in
    let r4 : Reaches s true up q place.at entry = subst (λ (b : Bool). Reaches s true b q place.at entry) same r3 in
    let r5 : Reaches s true up (edge up) place.at entry = subst (λ (n : ℕ). Reaches s true up n place.at entry) at_edge r4 in
    subst (λ (o : Option Place). GoesOnIn s up None (block_of o) entry) (sym is) r5
