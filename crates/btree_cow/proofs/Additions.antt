-- What additions of nodes to a file come to.
use Rattle.std.proofs.Common.{◌≡◌, ℕ, zero, suc, ◌≤◌, Bool, true, false, List, [], ◌∷◌, ◌++◌, length, refl, sym, ap, ◌∙◌, subst, arith, true≢false}
use Rattle.std.specs.Prelude.{Option, Some, IsTrue, slice_get}
use Rattle.node_page.specs.Nodes.{Entry, rises}
use Rattle.btree_cow.specs.Shelf.{Shelf, Later, LieBelow}
use Rattle.btree_cow.specs.Trees.{lies_in, NodeAt}
use Rattle.btree_cow.specs.Causes.{IsAmong}
use Rattle.btree_cow.specs.Changes.{with_entry, StaysWell, SameLimits}
use Rattle.btree_cow.specs.Growing.{AddsNode, Appends, Holds, IsChild, Puts, Stands, Stores, first_chunk, with_child}
use Rattle.btree_cow.specs.declared.grown.Grown.{Grown}
use Rattle.btree_cow.specs.declared.grown.Grown.TheVariants.{Two}
use Rattle.btree_cow.proofs.WithEntries.{with_all, with_long}
use Rattle.btree_cow.proofs.Growth.{holds_of, later_on, rises_front, rises_back, stores_two}
use Rattle.btree_cow.proofs.ChildPlaces.{child_long, inner_holds}

-- ---- one addition after another

limits_on : (a b c : Shelf) → SameLimits a b → SameLimits b c → SameLimits a c
limits_on a b c l m = record { lender = m.lender ∙ l.lender; file = m.file ∙ l.file; used = omega (arith, l.used, m.used); most = m.most ∙ l.most; max = m.max ∙ l.max }

pub appends_on : (tells : Bool) (a b c : Shelf) (x y z : ℕ) → Appends tells a b x y → Appends tells b c y z → Appends tells a c x z
appends_on tells a b c x y z p q =
    record { later = λ told. later_on a b c (p.later told) (q.later told); limits = limits_on a b c p.limits q.limits; counts = omega (arith, p.counts, q.counts) }

-- additions behind a node that was read
pub appends_after : (tells : Bool) (a b c d : Shelf) (x y z w : ℕ) → b ≡ a → y ≡ x → Appends tells b c y z → Appends tells c d z w → Appends tells a d x w
appends_after tells a b c d x y z w same quiet p q =
    subst (λ (s : Shelf). Appends tells s d x w) same (subst (λ (n : ℕ). Appends tells b d n w) quiet (appends_on tells b c d y z w p q))

-- ---- a node that is stored

pub stores_halves : (leaf : Bool) (content front back : List Entry) (old mid new : Shelf) (left right a b : ℕ) → content ≡ front ++ back → 126 ≤ length front → 126 ≤ length back → rises content ≡ true
    → AddsNode leaf front old mid left → AddsNode leaf back mid new right → a ≡ first_chunk front → b ≡ first_chunk back → Stores leaf content old new (Two (a, left) (b, right))
stores_halves leaf content front back old mid new left right a b split many many' rise one two is is' =
    subst (λ (l : List Entry). Stores leaf l old new (Two (a, left) (b, right))) (sym split)
    (subst (λ (n : ℕ). Stores leaf (front ++ back) old new (Two (n, left) (b, right))) (sym is)
    (subst (λ (n : ℕ). Stores leaf (front ++ back) old new (Two (first_chunk front, left) (n, right))) (sym is')
    (stores_two leaf front back old mid new left right many many' (ap rises (sym split) ∙ rise) one two)))

pub front_rises : (content front back : List Entry) → content ≡ front ++ back → rises content ≡ true → rises front ≡ true
front_rises content front back split rise = rises_front front back (ap rises (sym split) ∙ rise)

pub back_rises : (content front back : List Entry) → content ≡ front ++ back → rises content ≡ true → rises back ≡ true
back_rises content front back split rise = rises_back front back (ap rises (sym split) ∙ rise)

-- ---- a value that is put

leaf_step : (ok : ℕ → ℕ → Bool) (old new : Shelf) (height least low chunk value : ℕ) (high : Option ℕ) (content entries : List Entry) (grown : Grown) → StaysWell ok → IsTrue (ok old.used value) → lies_in low high (chunk, value) ≡ true
    → Holds ok old height true content low high entries → least ≤ length content → Stores true (with_entry content chunk value) old new grown → Stands ok new height least grown low high (with_entry entries chunk value)
leaf_step ok old new zero least low chunk value high content entries grown well okay here h enough stores =
    let long = with_long content chunk value in
    stores.each ok zero least low high (with_entry entries chunk value) well (omega (arith, long.0))
    (refl, ap (λ (l : List Entry). with_entry l chunk value) h.1, with_all (lies_in low high) content chunk value here h.2, with_all (λ (e : Entry). ok old.used e.1) content chunk value okay h.3)
leaf_step ok old new (suc height) least low chunk value high content entries grown well okay here h enough stores = absurd (true≢false h.0)

pub puts_leaf : (old new : Shelf) (at chunk value : ℕ) (content : List Entry) (grown : Grown) → LieBelow old → NodeAt old at true content → Stores true (with_entry content chunk value) old new grown → Puts at chunk value old new grown
puts_leaf old new at chunk value content grown lie node stores =
    record {
      each = λ ok height least low high entries well okay here tree.
          let h = holds_of ok old height least at true content low high entries well lie node tree in
          leaf_step ok old new height least low chunk value high content entries grown well okay here h.0 h.1 stores;
    }

inner_step : (ok : ℕ → ℕ → Bool) (old mid new : Shelf) (height least low chunk value place child : ℕ) (high : Option ℕ) (content entries : List Entry) (grown result : Grown) → LieBelow mid → Later old mid → StaysWell ok → IsTrue (ok old.used value)
    → lies_in low high (chunk, value) ≡ true → rises content ≡ true → IsChild content chunk place child → Holds ok old height false content low high entries → least ≤ length content
    → Puts child chunk value old mid grown → Stores false (with_child content place chunk grown) mid new result → Stands ok new height least result low high (with_entry entries chunk value)
inner_step ok old mid new zero least low chunk value place child high content entries grown result lie later well okay here rise c h enough puts stores = absurd (true≢false (sym h.0))
inner_step ok old mid new (suc height) least low chunk value place child high content entries grown result lie later well okay here rise c h enough puts stores =
    let cut = c.cut in
    let long = child_long content place chunk grown in
    let split : content ≡ cut.before ++ cut.chosen ∷ cut.after = cut.split in
    let puts' : Puts cut.chosen.1 chunk value old mid grown = subst (λ (n : ℕ). Puts n chunk value old mid grown) (sym c.leads) puts in
    let whole : Holds ok mid (suc height) false (with_child (cut.before ++ cut.chosen ∷ cut.after) place chunk grown) low high (with_entry entries chunk value) =
    inner_holds ok old mid lie later height low chunk value high cut.before cut.chosen cut.after grown place entries well okay cut.place (ap rises (sym split) ∙ rise) cut.upto cut.past here puts'
    (subst (λ (l : List Entry). Holds ok old (suc height) false l low high entries) split h) in
    stores.each ok (suc height) least low high (with_entry entries chunk value) well (omega (arith, long.0))
    (subst (λ (l : List Entry). Holds ok mid (suc height) false (with_child l place chunk grown) low high (with_entry entries chunk value)) (sym split) whole)

pub puts_inner : (old mid new : Shelf) (at chunk value place child : ℕ) (content : List Entry) (grown result : Grown) → LieBelow old → LieBelow mid → Later old mid → NodeAt old at false content → IsChild content chunk place child
    → Puts child chunk value old mid grown → Stores false (with_child content place chunk grown) mid new result → Puts at chunk value old new result
puts_inner old mid new at chunk value place child content grown result lie lie' later node c puts stores =
    record {
      each = λ ok height least low high entries well okay here tree.
          let h = holds_of ok old height least at false content low high entries well lie node tree in
          inner_step ok old mid new height least low chunk value place child high content entries grown result lie' later well okay here node.2.rise c h.0 h.1 puts stores;
    }

-- ---- children

-- the chosen child is among the children
pub chosen_among : (children : List Entry) (chunk n block : ℕ) (c : IsChild children chunk n block) → IsAmong c.cut.chosen children
chosen_among children chunk n block c =
    let cut = c.cut in
    (length cut.before, ap (λ (l : List Entry). slice_get l (length cut.before)) cut.split ∙ got cut.before)
  where
    got : (before : List Entry) → slice_get (before ++ c.cut.chosen ∷ c.cut.after) (length before) ≡ Some c.cut.chosen
    got [] = refl
    got (x ∷ before) = got before
