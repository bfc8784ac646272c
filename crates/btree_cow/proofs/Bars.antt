-- A way that is barred leads through no tree that stands.
use Rattle.std.proofs.Common.{◌≡◌, ◌⊎◌, inl, inr, ℕ, zero, suc, ◌+◌, Bool, false, true≢false, List, refl, sym, subst, arith}
use Rattle.std.specs.Prelude.{Option, Some, None, IfSome, IsTrue}
use Rattle.node_page.specs.Nodes.{Entry}
use Rattle.forest_model.specs.declared.refusal.Refusal.{Refusal}
use Rattle.btree_cow.specs.Shelf.{Shelf}
use Rattle.btree_cow.specs.Trees.{NodeAt, Tree}
use Rattle.btree_cow.specs.Causes.{IsNoNode, IsTooDeep, Reason}
use Rattle.std.specs.Option.{is_some}
use Rattle.btree_cow.specs.Walks.{EndsAt, IsChoice, IsSibling, WayFor, edge}
use Rattle.btree_cow.specs.Barred.{BreaksFind, BreaksOnWay, BreaksSearch, IsBeside, IsBroken, IsHigh, NamesBelow, NamesUnder}
use Rattle.btree_cow.specs.Finds.{IsNearest, IsWithin}
use Rattle.btree_cow.specs.declared.walk.Place.{Place}
use Rattle.btree_cow.proofs.Breaks.{Way, HasHighChild, BreaksTree, BreaksFrom, only_disk}
use Rattle.btree_cow.proofs.Walking.{chosen_among, names_higher, sibling_among}

way_of : (s : Shelf) (up : Bool) (q links at block : ℕ) → WayFor s up q links at block → Way s links at block
way_of s up q zero at block way = way
way_of s up q (suc links) at block way =
    let there = chosen_among up q way.0 way.2 way.3 way.4 in
    (way.0, there.0, way.1, there.1, subst (λ (n : ℕ). Way s links n block) (sym there.2) (way_of s up q links way.2 block way.6))

pub way_then : (s : Shelf) (n m total at mid block : ℕ) → total ≡ n + m → Way s n at mid → Way s m mid block → Way s total at block
way_then s zero m total at mid block is way way' =
    subst (λ (k : ℕ). Way s k at block) (omega (arith, is)) (subst (λ (b : ℕ). Way s m b block) (sym way) way')
way_then s (suc n) m zero at mid block is way way' = absurd (omega (arith, is))
way_then s (suc n) m (suc total) at mid block is way way' = (way.0, way.1, way.2, way.3, way_then s n m total way.1.1 mid block (omega (arith, is)) way.4 way')

high_of : (s : Shelf) (up : Bool) (q at : ℕ) (children : List Entry) (child : ℕ) (sibling : Option ℕ) → NodeAt s at false children → IsChoice up q children child sibling → IsHigh at child sibling → HasHighChild s at
high_of s up q at children child sibling node ch (inl high) =
    let there = chosen_among up q children child sibling ch in
    (children, there.0, node, there.1, omega (arith, high, there.2))
high_of s up q at children child sibling node ch (inr high) =
    let there = sibling_among up children ch.before ch.after ch.chosen high.0 ch.split (subst (λ (o : Option ℕ). IsSibling up ch.before ch.after o) high.1 ch.sibling_is) in
    (children, there.0, node, there.1, omega (arith, high.2, there.2))

broken_of : (s : Shelf) (up : Bool) (q depth at : ℕ) → IsBroken s up q depth at → IsNoNode s at ⊎ HasHighChild s at ⊎ IsTooDeep s depth at
broken_of s up q depth at (inl (inl none)) = inl none
broken_of s up q depth at (inl (inr high)) = inr (inl (high_of s up q at high.0 high.2 high.3 high.1 high.4 high.5))
broken_of s up q depth at (inr deep) = inr (inr deep)

breaks_tree : (s : Shelf) (up : Bool) (q depth root from block : ℕ) → Way s depth root from → BreaksOnWay s up q depth from block → BreaksTree s root block
breaks_tree s up q depth root from block way b = record {
  depth = depth + b.links;
  reached = way_then s depth b.links (depth + b.links) root from block refl way (way_of s up q b.links from block b.way);
  shallow = b.shallow;
  broken = broken_of s up q (depth + b.links) block b.broken;
}

way_beside : (s : Shelf) (up : Bool) (q root depth sibling block : ℕ) → IsBeside s up q root depth sibling block → Way s depth root sibling
way_beside s up q root depth sibling block b =
    let there = sibling_among up b.children b.choice.before b.choice.after b.choice.chosen sibling b.choice.split b.choice.sibling_is in
    way_then s b.links 1 depth root b.parent sibling b.depth_is (way_of s up q b.links root b.parent b.way) (b.children, there.0, b.node, there.1, there.2)

find_breaks : (s : Shelf) (root : Option ℕ) (q block : ℕ) → BreaksFind s root q block → BreaksFrom s root block
find_breaks s root q block b = (b.0, b.1, breaks_tree s false q 0 b.0 b.0 block refl b.2)

search_breaks : (s : Shelf) (with up : Bool) (root : Option ℕ) (q block : ℕ) → BreaksSearch s with up root q block → BreaksFrom s root block
search_breaks s with up root q block (at, is, inl way) = (at, is, breaks_tree s up q 0 at at block refl way)
search_breaks s with up root q block (at, is, inr beside) =
    (at, is, breaks_tree s up (edge up) beside.0 at beside.1 block (way_beside s up q at beside.0 beside.1 beside.2 beside.3) beside.5)

-- ---- so a look-up in a tree that stands is refused for the disk alone

pub reason_so : (tells : Bool) (file before after : ℕ) (P Q : ℕ → Type 0) (why : Refusal) → ((block : ℕ) → P block → Q block) → Reason tells file P before after why → Reason tells file Q before after why
reason_so tells file before after P Q why so (inl disk) = inl disk
reason_so tells file before after P Q why so (inr damaged) = inr (damaged.0, damaged.1, λ told. so damaged.0 (damaged.2 told))

pub find_disk : (tells : Bool) (ok : ℕ → ℕ → Bool) (s : Shelf) (root : Option ℕ) (entries : List Entry) (q file before after : ℕ) (why : Refusal) → IsTrue tells → Tree ok s root entries
    → Reason tells file (BreaksFind s root q) before after why → why ≡ Refusal.DiskFault
find_disk tells ok s root entries q file before after why told tree r =
    only_disk tells ok s root entries file before after why told tree (reason_so tells file before after (BreaksFind s root q) (BreaksFrom s root) why (find_breaks s root q) r)

pub search_disk : (tells : Bool) (ok : ℕ → ℕ → Bool) (s : Shelf) (with up : Bool) (root : Option ℕ) (entries : List Entry) (q file before after : ℕ) (why : Refusal) → IsTrue tells → Tree ok s root entries
    → Reason tells file (BreaksSearch s with up root q) before after why → why ≡ Refusal.DiskFault
search_disk tells ok s with up root entries q file before after why told tree r =
    only_disk tells ok s root entries file before after why told tree (reason_so tells file before after (BreaksSearch s with up root q) (BreaksFrom s root) why (search_breaks s with up root q) r)

-- ---- the reasons, from the root that was asked for

pub find_from : (tells : Bool) (s : Shelf) (file before after at : ℕ) (root : Option ℕ) (q : ℕ) (why : Refusal) → root ≡ Some at → Reason tells file (BreaksOnWay s false q 0 at) before after why
    → Reason tells file (BreaksFind s root q) before after why
find_from tells s file before after at root q why is r = reason_so tells file before after (BreaksOnWay s false q 0 at) (BreaksFind s root q) why (λ block b. (at, is, b)) r

pub search_from : (tells : Bool) (s : Shelf) (file before after at : ℕ) (with up : Bool) (root : Option ℕ) (q : ℕ) (why : Refusal) → root ≡ Some at → Reason tells file (BreaksOnWay s up q 0 at) before after why
    → Reason tells file (BreaksSearch s with up root q) before after why
search_from tells s file before after at with up root q why is r = reason_so tells file before after (BreaksOnWay s up q 0 at) (BreaksSearch s with up root q) why (λ block b. (at, is, inl b)) r

pub names_from : (file at : ℕ) (root : Option ℕ) (why : Refusal) → root ≡ Some at → NamesUnder file at why → NamesBelow file root why
names_from file at root why is names other block damaged =
    let named = names other block damaged in
    (at, is, named.0, named.1)

-- ---- the reasons of the way where a search goes on

none_of : (o : Option Entry) → is_some o ≡ false → o ≡ None
none_of None none = refl
none_of (Some e) none = absurd (true≢false none)

nearest_at : (s : Shelf) (with up : Bool) (q : ℕ) (from : Place) (second : Option Place) (place : Place) (entry : Option Entry) → second ≡ Some place → IfSome second (λ (p : Place). IsNearest s with up q from p entry)
    → IsNearest s with up q from place entry
nearest_at s with up q from second place entry is near = subst (λ (o : Option Place). IfSome o (λ (p : Place). IsNearest s with up q from p entry)) is near

beside_of : (s mid : Shelf) (with up above : Bool) (q chunk at : ℕ) (root : Option ℕ) (second : Option Place) (place : Place) (entry : Option Entry) (block : ℕ) → root ≡ Some at → second ≡ Some place → is_some entry ≡ false
    → mid ≡ s → above ≡ up → chunk ≡ edge up → IfSome second (λ (p : Place). IsNearest s with up q (record { at = at; depth = 0 }) p entry)
    → BreaksOnWay mid above chunk place.depth place.at block → BreaksSearch s with up root q block
beside_of s mid with up above q chunk at root second place entry block is there none kept same at_edge near b =
    let n = nearest_at s with up q (record { at = at; depth = 0 }) second place entry there near in
    let b1 : BreaksOnWay s above chunk place.depth place.at block = subst (λ (m : Shelf). BreaksOnWay m above chunk place.depth place.at block) kept b in
    let b2 : BreaksOnWay s up chunk place.depth place.at block = subst (λ (u : Bool). BreaksOnWay s u chunk place.depth place.at block) same b1 in
    let b3 : BreaksOnWay s up (edge up) place.depth place.at block = subst (λ (n : ℕ). BreaksOnWay s up n place.depth place.at block) at_edge b2 in
    let b4 : BreaksOnWay s up (edge up) n.depth place.at block = subst (λ (d : ℕ). BreaksOnWay s up (edge up) d place.at block) (omega (arith, n.deeper)) b3 in
    (at, is, inr (n.depth, place.at, n.block, n.beside, subst (λ (o : Option Entry). EndsAt s with up q n.block o) (none_of entry none) n.end, b4))

pub search_then : (tells : Bool) (s mid : Shelf) (before middle after at : ℕ) (with up above : Bool) (q chunk : ℕ) (root : Option ℕ) (second : Option Place) (place : Place) (entry : Option Entry) (why : Refusal)
    → root ≡ Some at → second ≡ Some place → is_some entry ≡ false → mid ≡ s → middle ≡ before → above ≡ up → chunk ≡ edge up
    → (IsTrue tells → IfSome second (λ (p : Place). IsNearest s with up q (record { at = at; depth = 0 }) p entry))
    → Reason tells mid.file (BreaksOnWay mid above chunk place.depth place.at) middle after why → Reason tells s.file (BreaksSearch s with up root q) before after why
search_then tells s mid before middle after at with up above q chunk root second place entry why is there none kept same_faults same at_edge near r =
    let r1 : Reason tells s.file (BreaksOnWay mid above chunk place.depth place.at) middle after why =
    subst (λ (m : Shelf). Reason tells m.file (BreaksOnWay mid above chunk place.depth place.at) middle after why) kept r in
    let r2 : Reason tells s.file (BreaksOnWay mid above chunk place.depth place.at) before after why =
    subst (λ (n : ℕ). Reason tells s.file (BreaksOnWay mid above chunk place.depth place.at) n after why) same_faults r1 in
    elim r2 [
      | inl disk ↦ inl disk
      | inr damaged ↦ inr (damaged.0, damaged.1, λ told. beside_of s mid with up above q chunk at root second place entry damaged.0 is there none kept same at_edge (near told) (damaged.2 told))
    ]

pub names_then : (s mid : Shelf) (at : ℕ) (root : Option ℕ) (second : Option Place) (place : Place) (why : Refusal) → root ≡ Some at → second ≡ Some place → mid ≡ s
    → IfSome second (λ (p : Place). IsWithin (record { at = at; depth = 0 }) p) → NamesUnder mid.file place.at why → NamesBelow s.file root why
names_then s mid at root second place why is there kept within names =
    let w : IsWithin (record { at = at; depth = 0 }) place = subst (λ (o : Option Place). IfSome o (λ (p : Place). IsWithin (record { at = at; depth = 0 }) p)) there within in
    names_from s.file at root why is (names_higher s.file place.at at why w.under (subst (λ (m : Shelf). NamesUnder m.file place.at why) kept names))
