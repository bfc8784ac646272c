-- A chunk has one way down, on any blocks.
use Rattle.std.proofs.Common.{◌≡◌, ◌⊎◌, inl, inr, ℕ, zero, suc, ◌<◌, ◌≤◌, Bool, true, false, true≢false, List, [], ◌∷◌, ◌++◌, drop, refl, sym, ap, ◌∙◌, subst, arith}
use Rattle.std.specs.Prelude.{Option, Some, None, IfSome, IsTrue, nat_lt}
use Rattle.std.specs.List.{list_all}
use Rattle.std.specs.Option.{option_or}
use Rattle.std.proofs.lemmas.Bool.{and_parts, ltb-true}
use Rattle.std.proofs.lemmas.Option.{same_Some}
use Rattle.node_page.specs.Nodes.{Entry}
use Rattle.btree_cow.specs.Shelf.{Shelf}
use Rattle.btree_cow.specs.Trees.{NodeAt}
use Rattle.btree_cow.specs.Causes.{IsNoNode}
use Rattle.btree_cow.specs.Walks.{EndsAt, IsChoice, IsSibling, ReachesBeside, WayBeside, WayFor}
use Rattle.btree_cow.specs.Barred.{Bars, IsHigh}
use Rattle.btree_cow.proofs.Breaks.{no_leaf, one_at}
use Rattle.btree_cow.proofs.Finds.{all_back}

abbrev head_or : List Entry → Entry → Entry
head_or [] d = d
head_or (e ∷ later) d = e

-- a chunk that isn't above isn't among those above
never_above : (q : ℕ) (before after : List Entry) (c : Entry) → c.0 ≤ q → list_all (λ (e : Entry). nat_lt q e.0) (before ++ c ∷ after) ≡ true → ⊥
never_above q before after c low above =
    let here = and_parts (nat_lt q c.0) (list_all (λ (e : Entry). nat_lt q e.0) after) (all_back (λ (e : Entry). nat_lt q e.0) before (c ∷ after) above) in
    let more : q < c.0 = ltb-true q c.0 here.0 in
    omega (arith, more, low)

-- a cut of children in front of a chosen one
abbrev IsOneCut : List Entry → List Entry → List Entry → List Entry → Entry → Entry → Type 0
IsOneCut before before' after after' c c' = (before ≡ before') × (c ≡ c') × (after ≡ after')

last_low : (q : ℕ) (before before' after after' : List Entry) (c c' : Entry) → before ++ c ∷ after ≡ before' ++ c' ∷ after' → c.0 ≤ q → c'.0 ≤ q
    → list_all (λ (e : Entry). nat_lt q e.0) after ≡ true → list_all (λ (e : Entry). nat_lt q e.0) after' ≡ true → IsOneCut before before' after after' c c'
last_low q [] [] after after' c c' same low low' above above' = (refl, ap (λ (l : List Entry). head_or l c) same, ap (λ (l : List Entry). drop 1 l) same)
last_low q [] (b' ∷ before') after after' c c' same low low' above above' =
    absurd (never_above q before' after' c' low' (subst (λ (l : List Entry). list_all (λ (e : Entry). nat_lt q e.0) l ≡ true) (ap (λ (l : List Entry). drop 1 l) same) above))
last_low q (b ∷ before) [] after after' c c' same low low' above above' =
    absurd (never_above q before after c low (subst (λ (l : List Entry). list_all (λ (e : Entry). nat_lt q e.0) l ≡ true) (ap (λ (l : List Entry). drop 1 l) (sym same)) above'))
last_low q (b ∷ before) (b' ∷ before') after after' c c' same low low' above above' =
    let rest = last_low q before before' after after' c c' (ap (λ (l : List Entry). drop 1 l) same) low low' above above' in
    let head : b ≡ b' = ap (λ (l : List Entry). head_or l c) same in
    (ap (λ (e : Entry). e ∷ before) head ∙ ap (λ (l : List Entry). b' ∷ l) rest.0, rest.1, rest.2)

-- the first child, where all behind it are above, is the only one that can be low
head_chosen : (q : ℕ) (before after after' : List Entry) (c c' : Entry) → before ++ c ∷ after ≡ c' ∷ after' → c.0 ≤ q → list_all (λ (e : Entry). nat_lt q e.0) after' ≡ true → IsOneCut before [] after after' c c'
head_chosen q [] after after' c c' same low above' = (refl, ap (λ (l : List Entry). head_or l c) same, ap (λ (l : List Entry). drop 1 l) same)
head_chosen q (b ∷ before) after after' c c' same low above' =
    absurd (never_above q before after c low (subst (λ (l : List Entry). list_all (λ (e : Entry). nat_lt q e.0) l ≡ true) (ap (λ (l : List Entry). drop 1 l) (sym same)) above'))

first_behind : (before after : List Entry) (c : Entry) (children : List Entry) → children ≡ before ++ c ∷ after → before ≡ [] → children ≡ c ∷ after
first_behind before after c children split none = split ∙ ap (λ (l : List Entry). l ++ c ∷ after) none

one_cut : (up : Bool) (q : ℕ) (children : List Entry) (child child' : ℕ) (sibling sibling' : Option ℕ) (ch : IsChoice up q children child sibling) (ch' : IsChoice up q children child' sibling')
    → IsOneCut ch.before ch'.before ch.after ch'.after ch.chosen ch'.chosen
one_cut up q children child child' sibling sibling' ch ch' = elim ch.upto [
  | inl low ↦ elim ch'.upto [
    | inl low' ↦ last_low q ch.before ch'.before ch.after ch'.after ch.chosen ch'.chosen (sym ch.split ∙ ch'.split) low low' ch.past ch'.past
    | inr none' ↦
        let cut = head_chosen q ch.before ch.after ch'.after ch.chosen ch'.chosen (sym ch.split ∙ first_behind ch'.before ch'.after ch'.chosen children ch'.split none'.1) low ch'.past in
        (cut.0 ∙ sym none'.1, cut.1, cut.2)
  ]
  | inr none ↦ elim ch'.upto [
    | inl low' ↦
        let cut = head_chosen q ch'.before ch'.after ch.after ch'.chosen ch.chosen (sym ch'.split ∙ first_behind ch.before ch.after ch.chosen children ch.split none.1) low' ch.past in
        (none.1 ∙ sym cut.0, sym cut.1, sym cut.2)
    | inr none' ↦
        let same : ch.chosen ∷ ch.after ≡ ch'.chosen ∷ ch'.after = sym (first_behind ch.before ch.after ch.chosen children ch.split none.1) ∙ first_behind ch'.before ch'.after ch'.chosen children ch'.split none'.1 in
        (none.1 ∙ sym none'.1, ap (λ (l : List Entry). head_or l ch.chosen) same, ap (λ (l : List Entry). drop 1 l) same)
  ]
]

one_child : (up : Bool) (q : ℕ) (children : List Entry) (child child' : ℕ) (sibling sibling' : Option ℕ) → IsChoice up q children child sibling → IsChoice up q children child' sibling' → child ≡ child'
one_child up q children child child' sibling sibling' ch ch' =
    sym ch.child_is ∙ ap (λ (e : Entry). e.1) (one_cut up q children child child' sibling sibling' ch ch').1 ∙ ch'.child_is

abbrev last_or : List Entry → Entry → Entry
last_or [] d = d
last_or (e ∷ later) d = last_or later e

last_of : (front : List Entry) (x d : Entry) → last_or (front ++ x ∷ []) d ≡ x
last_of [] x d = refl
last_of (e ∷ front) x d = last_of front x e

never_empty : (front : List Entry) (x : Entry) → [] ≡ front ++ x ∷ [] → ⊥
never_empty [] x same = absurd cc
never_empty (e ∷ front) x same = absurd cc

-- a child has one sibling, or none
sibling_so : (up : Bool) (before after : List Entry) (sibling sibling' : Option ℕ) → IsSibling up before after sibling → IsSibling up before after sibling' → sibling ≡ sibling'
sibling_so up before after None None is is' = refl
sibling_so true before after None (Some o) is is' =
    let both : [] ≡ is'.0 ∷ is'.1 = sym is ∙ is'.2 in
    absurd cc
sibling_so false before after None (Some o) is is' = absurd (never_empty is'.0 is'.1 (sym is ∙ is'.2))
sibling_so true before after (Some o) None is is' =
    let both : [] ≡ is.0 ∷ is.1 = sym is' ∙ is.2 in
    absurd cc
sibling_so false before after (Some o) None is is' = absurd (never_empty is.0 is.1 (sym is' ∙ is.2))
sibling_so true before after (Some o) (Some o') is is' =
    let same : is.0 ≡ is'.0 = ap (λ (l : List Entry). head_or l is.0) (sym is.2 ∙ is'.2) in
    ap (λ (n : ℕ). Some n) (sym is.3 ∙ ap (λ (e : Entry). e.1) same ∙ is'.3)
sibling_so false before after (Some o) (Some o') is is' =
    let same : is.1 ≡ is'.1 = sym (last_of is.0 is.1 is.1) ∙ ap (λ (l : List Entry). last_or l is.1) (sym is.2 ∙ is'.2) ∙ last_of is'.0 is'.1 is.1 in
    ap (λ (n : ℕ). Some n) (sym is.3 ∙ ap (λ (e : Entry). e.1) same ∙ is'.3)

one_sibling : (up : Bool) (q : ℕ) (children : List Entry) (child child' : ℕ) (sibling sibling' : Option ℕ) → IsChoice up q children child sibling → IsChoice up q children child' sibling' → sibling ≡ sibling'
one_sibling up q children child child' sibling sibling' ch ch' =
    let cut = one_cut up q children child child' sibling sibling' ch ch' in
    sibling_so up ch'.before ch'.after sibling sibling'
    (subst (λ (l : List Entry). IsSibling up l ch'.after sibling) cut.0 (subst (λ (l : List Entry). IsSibling up ch.before l sibling) cut.2 ch.sibling_is)) ch'.sibling_is

-- the end of a way: a leaf, or an inner node from which a search downwards has no way on
abbrev IsEnd : Shelf → Bool → ℕ → ℕ → Type 0
IsEnd s up q block =
    ((leaf : List Entry) × NodeAt s block true leaf)
    ⊎ ((children : List Entry) × NodeAt s block false children × (up ≡ false) × IsTrue (list_all (λ (e : Entry). nat_lt q e.0) children))

entry_end : (s : Shelf) (with up : Bool) (q block : ℕ) (entry : Option Entry) → EndsAt s with up q block entry → IsEnd s up q block
entry_end s with up q block entry (inl h) = inl (h.0, h.1)
entry_end s with up q block entry (inr h) = inr (h.0, h.1, h.2, h.3)

is_node : (s : Shelf) (up : Bool) (q block : ℕ) → IsEnd s up q block → IsNoNode s block → ⊥
is_node s up q block (inl h) none = none true h.0 h.1
is_node s up q block (inr h) none = none false h.0 h.1

-- an end has no way on
no_way_on : (s : Shelf) (up : Bool) (q at : ℕ) (children : List Entry) (child : ℕ) (sibling : Option ℕ) → IsEnd s up q at → NodeAt s at false children → IsChoice up q children child sibling → ⊥
no_way_on s up q at children child sibling (inl h) node ch = no_leaf s at h.0 children h.1 node
no_way_on s up q at children child sibling (inr h) node ch =
    let same : h.0 ≡ children = (one_at s at false false h.0 children h.1 node).1 in
    let above : list_all (λ (e : Entry). nat_lt q e.0) (ch.before ++ ch.chosen ∷ ch.after) ≡ true = subst (λ (l : List Entry). list_all (λ (e : Entry). nat_lt q e.0) l ≡ true) (same ∙ ch.split) h.3 in
    elim ch.upto [
      | inl low ↦ never_above q ch.before ch.after ch.chosen low above
      | inr upwards ↦ true≢false (sym upwards.0 ∙ h.2)
    ]

-- what lies under its node isn't high
never_high : (at child : ℕ) (sibling : Option ℕ) → child < at → IfSome sibling (λ (other : ℕ). other < at) → IsHigh at child sibling → ⊥
never_high at child sibling low beside (inl high) = omega (arith, low, high)
never_high at child sibling low beside (inr high) =
    let less : high.0 < at = subst (λ (o : Option ℕ). IfSome o (λ (other : ℕ). other < at)) high.1 beside in
    omega (arith, less, high.2)

-- a node bars no way that ends there
end_goes : (s : Shelf) (up : Bool) (q block : ℕ) → IsEnd s up q block → Bars s up q block → ⊥
end_goes s up q block ends (inl none) = is_node s up q block ends none
end_goes s up q block ends (inr high) = no_way_on s up q block high.0 high.2 high.3 ends high.1 high.4

-- nor one that goes on
node_goes : (s : Shelf) (up : Bool) (q at : ℕ) (children : List Entry) (child : ℕ) (sibling : Option ℕ) → NodeAt s at false children → IsChoice up q children child sibling → child < at → IfSome sibling (λ (other : ℕ). other < at)
    → Bars s up q at → ⊥
node_goes s up q at children child sibling node ch low beside (inl none) = none false children node
node_goes s up q at children child sibling node ch low beside (inr high) =
    let same : high.0 ≡ children = (one_at s at false false high.0 children high.1 node).1 in
    let ch' : IsChoice up q children high.2 high.3 = subst (λ (l : List Entry). IsChoice up q l high.2 high.3) same high.4 in
    never_high at child sibling low beside
    (subst (λ (o : Option ℕ). IsHigh at child o) (one_sibling up q children high.2 child high.3 sibling ch' ch)
    (subst (λ (n : ℕ). IsHigh at n high.3) (one_child up q children high.2 child high.3 sibling ch' ch) high.5))

one_way : (s : Shelf) (up : Bool) (q n m at block : ℕ) (earlier : Option ℕ) (end : ℕ) (last : Option ℕ) → WayFor s up q n at block → WayBeside s up q m at earlier end last → IsEnd s up q end → Bars s up q block → ⊥
one_way s up q zero zero at block earlier end last way way' ends bars = end_goes s up q block (subst (λ (b : ℕ). IsEnd s up q b) (sym way'.0 ∙ way) ends) bars
one_way s up q zero (suc m) at block earlier end last way way' ends bars =
    node_goes s up q at way'.0 way'.2 way'.3 way'.1 way'.4 way'.5 way'.6 (subst (λ (b : ℕ). Bars s up q b) (sym way) bars)
one_way s up q (suc n) zero at block earlier end last way way' ends bars = no_way_on s up q at way.0 way.2 way.3 (subst (λ (b : ℕ). IsEnd s up q b) (sym way'.0) ends) way.1 way.4
one_way s up q (suc n) (suc m) at block earlier end last way way' ends bars =
    let same : way.0 ≡ way'.0 = (one_at s at false false way.0 way'.0 way.1 way'.1).1 in
    let child : way.2 ≡ way'.2 = one_child up q way'.0 way.2 way'.2 way.3 way'.3 (subst (λ (l : List Entry). IsChoice up q l way.2 way.3) same way.4) way'.4 in
    one_way s up q n m way'.2 block (option_or way'.3 earlier) end last (subst (λ (c : ℕ). WayFor s up q n c block) child way.6) way'.7 ends bars

-- the way without its siblings
pub way_only : (s : Shelf) (up : Bool) (q links at : ℕ) (earlier : Option ℕ) (block : ℕ) (last : Option ℕ) → WayBeside s up q links at earlier block last → WayFor s up q links at block
way_only s up q zero at earlier block last way = way.0
way_only s up q (suc links) at earlier block last way = (way.0, way.1, way.2, way.3, way.4, way.5, way_only s up q links way.2 (option_or way.3 earlier) block last way.7)

-- so no look-up answers over a block that bars its way
pub never_barred : (s : Shelf) (with up : Bool) (root : Option ℕ) (from q : ℕ) (first : Option Entry) (last : Option ℕ) → root ≡ Some from → ReachesBeside s with up q from first last
    → (at links block : ℕ) → root ≡ Some at → WayFor s up q links at block → Bars s up q block → ⊥
never_barred s with up root from q first last is r at links block there way bars =
    let same : at ≡ from = same_Some at from (sym there ∙ is) in
    one_way s up q links r.links from block None r.block last (subst (λ (b : ℕ). WayFor s up q links b block) same way) r.way (entry_end s with up q r.block first r.end) bars
