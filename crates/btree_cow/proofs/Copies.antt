-- The nodes that an insert adds, on any blocks.
use Rattle.std.proofs.Common.{◌≡◌, ℕ, zero, suc, ◌<◌, ◌≤◌, ◌-◌, ◌+◌, ◌/◌, Bool, true, false, List, [], ◌∷◌, ◌++◌, length, refl, sym, ◌∙◌, subst, arith}
use Rattle.std.specs.Prelude.{Option, Some, None, IsTrue, Result, Ok, Err, IfOk}
use Rattle.forest_model.specs.declared.refusal.Refusal.{Refusal}
use Rattle.node_page.specs.Nodes.{Entry}
use Rattle.btree_cow.specs.Shelf.{Shelf, Later}
use Rattle.btree_cow.specs.Trees.{NodeAt}
use Rattle.btree_cow.specs.Changes.{with_entry}
use Rattle.btree_cow.specs.Growing.{AddsNode, IsChild, IsRead, first_chunk, with_child}
use Rattle.btree_cow.specs.Copies.{IsMade, Makes, PutsAlong, Copied, Inserts, node_count}
use Rattle.btree_cow.specs.declared.grown.Grown.{Grown}
use Rattle.btree_cow.specs.declared.grown.Grown.TheVariants.{One, Two}
use Rattle.btree_cow.proofs.Growth.{later_same, node_later}

pub on_ok : {A E : Type 0} (r : Result A E) (P Q : A → Type 0) → ((a : A) → P a → Q a) → IfOk r P → IfOk r Q
on_ok (Ok a) P Q so h = so a h
on_ok (Err e) P Q so h = h

pub told_node : (tells : Bool) (s : Shelf) (at : ℕ) (leaf leaf' : Bool) (content : List Entry) → IsTrue tells → leaf ≡ leaf' → IsRead tells s at leaf content → NodeAt s at leaf' content
told_node tells s at leaf leaf' content told is read = subst (λ (b : Bool). NodeAt s at b content) is (read.node told)

pub added_node : (leaf : Bool) (content : List Entry) (old new : Shelf) (at : ℕ) → AddsNode leaf content old new at → NodeAt new at leaf content
added_node leaf content old new at added = (added.page, added.adds.there, added.node)

-- ---- a node that is stored

pub makes_one : (leaf : Bool) (content : List Entry) (old new : Shelf) (at : ℕ) → AddsNode leaf content old new at → Makes leaf content old new (One at)
makes_one leaf content old new at added = record { made = (added_node leaf content old new at added, omega (arith, added.adds.at_end)); used = added.adds.one_more }

pub makes_two : (leaf : Bool) (content front back : List Entry) (old mid new : Shelf) (left right a b : ℕ) → content ≡ front ++ back → 254 ≤ length content → length front ≡ length content / 2
    → AddsNode leaf front old mid left → AddsNode leaf back mid new right → a ≡ first_chunk front → b ≡ first_chunk back → Makes leaf content old new (Two (a, left) (b, right))
makes_two leaf content front back old mid new left right a b split many half one two is is' =
    record {
      made = record {
        front = front;
        back = back;
        split = split;
        many = many;
        half = half;
        left_chunk = is;
        right_chunk = is';
        left_node = node_later mid new left leaf front two.adds.later (added_node leaf front old mid left one);
        right_node = added_node leaf back mid new right two;
        left_new = omega (arith, one.adds.at_end);
        right_new = omega (arith, two.adds.at_end, one.adds.one_more);
      };
      used = omega (arith, one.adds.one_more, two.adds.one_more);
    }

-- ---- down the way

pub made_later : (low from : ℕ) (mid new : Shelf) (leaf : Bool) (content : List Entry) (grown : Grown) → low ≤ from → Later mid new → IsMade from mid leaf content grown → IsMade low new leaf content grown
made_later low from mid new leaf content (One at) less later made = (node_later mid new at leaf content later made.0, omega (arith, less, made.1))
made_later low from mid new leaf content (Two left right) less later made = record {
  front = made.front;
  back = made.back;
  split = made.split;
  many = made.many;
  half = made.half;
  left_chunk = made.left_chunk;
  right_chunk = made.right_chunk;
  left_node = node_later mid new left.1 leaf made.front later made.left_node;
  right_node = node_later mid new right.1 leaf made.back later made.right_node;
  left_new = omega (arith, less, made.left_new);
  right_new = omega (arith, less, made.right_new);
}

made_from : (low from : ℕ) (s : Shelf) (leaf : Bool) (content : List Entry) (grown : Grown) → low ≤ from → IsMade from s leaf content grown → IsMade low s leaf content grown
made_from low from s leaf content grown less made = made_later low from s s leaf content grown less (later_same s) made

along_later : (old mid new : Shelf) (links at chunk value : ℕ) (grown : Grown) (nodes : ℕ) → Later mid new → PutsAlong old mid links at chunk value grown nodes → PutsAlong old new links at chunk value grown nodes
along_later old mid new zero at chunk value grown nodes later p = (p.0, p.1, made_later old.used old.used mid new true (with_entry p.0 chunk value) grown (omega arith) later p.2, p.3)
along_later old mid new (suc links) at chunk value grown nodes later p =
    (p.0, p.1, p.2, p.3, p.4, p.5, p.6, p.7, along_later old mid new links p.3 chunk value p.6 p.7 later p.8, made_later old.used old.used mid new false (with_child p.0 p.2 chunk p.6) grown (omega arith) later p.9, p.10)

pub copied_leaf : (tells : Bool) (old mid new : Shelf) (r : Result Grown Refusal) (left at chunk value : ℕ) (leaf : Bool) (content items slice : List Entry) → IsTrue tells → mid ≡ old → leaf ≡ true → IsRead tells old at leaf content
    → slice ≡ items → items ≡ with_entry content chunk value → IfOk r (Makes true slice mid new) → IfOk r (Copied left at chunk value old new)
copied_leaf tells old mid new r left at chunk value leaf content items slice told kept is read same put makes =
    on_ok r (Makes true slice mid new) (Copied left at chunk value old new)
    (λ g m.
    record {
      links = 0;
      few = omega arith;
      nodes = node_count g;
      along = (content, told_node tells old at leaf true content told is read, subst (λ (l : List Entry). IsMade old.used new true l g) (same ∙ put) (subst (λ (s : Shelf). IsMade s.used new true slice g) kept m.made), refl);
      used = subst (λ (s : Shelf). new.used ≡ s.used + node_count g) kept m.used;
    })
    makes

pub copied_inner : (tells : Bool) (old mid mid' new : Shelf) (r : Result Grown Refusal) (left rest at chunk value place child : ℕ) (leaf : Bool) (content children items slice : List Entry) (grown : Grown) → IsTrue tells → mid ≡ old → 0 < left → rest ≡ left - 1
    → leaf ≡ false → IsRead tells old at leaf content → children ≡ content → IsChild children chunk place child → child < at → Copied rest child chunk value mid mid' grown → Later mid' new
    → slice ≡ items → items ≡ with_child content place chunk grown → IfOk r (Makes false slice mid' new) → IfOk r (Copied left at chunk value old new)
copied_inner tells old mid mid' new r left rest at chunk value place child leaf content children items slice grown told kept some less is read same c low below later got put makes =
    let b : Copied rest child chunk value old mid' grown = subst (λ (s : Shelf). Copied rest child chunk value s mid' grown) kept below in
    on_ok r (Makes false slice mid' new) (Copied left at chunk value old new)
    (λ g m.
    record {
      links = suc b.links;
      few = omega (arith, b.few, less, some);
      nodes = b.nodes + node_count g;
      along = (
        content,
        told_node tells old at leaf false content told is read,
        place,
        child,
        subst (λ (l : List Entry). IsChild l chunk place child) same c,
        low,
        grown,
        b.nodes,
        along_later old mid' new b.links child chunk value grown b.nodes later b.along,
        subst (λ (l : List Entry). IsMade old.used new false l g) (got ∙ put) (made_from old.used mid'.used new false slice g (omega (arith, b.used)) m.made),
        refl,
      );
      used = omega (arith, b.used, m.used);
    })
    makes

-- ---- the root

pub inserts_first : (r : Result ℕ Refusal) (root : Option ℕ) (chunk value : ℕ) (slice : List Entry) (old new : Shelf) → root ≡ None → slice ≡ (chunk, value) ∷ [] → IfOk r (AddsNode true slice old new) → IfOk r (Inserts root chunk value old new)
inserts_first r root chunk value slice old new is same added =
    on_ok r (AddsNode true slice old new) (Inserts root chunk value old new)
    (λ at a.
    subst (λ (o : Option ℕ). Inserts o chunk value old new at) (sym is)
    (subst (λ (l : List Entry). NodeAt new at true l) same (added_node true slice old new at a), a.adds.one_more))
    added

pub inserts_one : (root : Option ℕ) (at chunk value block : ℕ) (old new : Shelf) (grown : Grown) → root ≡ Some at → grown ≡ One block → Copied 9 at chunk value old new grown → Inserts root chunk value old new block
inserts_one root at chunk value block old new grown is one c =
    subst (λ (o : Option ℕ). Inserts o chunk value old new block) (sym is)
    (c.links, c.few, One block, c.nodes, subst (λ (g : Grown). PutsAlong old new c.links at chunk value g c.nodes) one c.along, 0, (refl, refl), omega (arith, c.used))

pub inserts_two : (r : Result ℕ Refusal) (root : Option ℕ) (at chunk value : ℕ) (left right : Entry) (slice : List Entry) (old mid new : Shelf) (grown : Grown) → root ≡ Some at → grown ≡ Two left right → slice ≡ left ∷ right ∷ [] → Later mid new → Copied 9 at chunk value old mid grown
    → IfOk r (AddsNode false slice mid new) → IfOk r (Inserts root chunk value old new)
inserts_two r root at chunk value left right slice old mid new grown is two same later c added =
    on_ok r (AddsNode false slice mid new) (Inserts root chunk value old new)
    (λ top a.
    subst (λ (o : Option ℕ). Inserts o chunk value old new top) (sym is) (
      c.links,
      c.few,
      Two left right,
      c.nodes,
      along_later old mid new c.links at chunk value (Two left right) c.nodes later (subst (λ (g : Grown). PutsAlong old mid c.links at chunk value g c.nodes) two c.along),
      1,
      (subst (λ (l : List Entry). NodeAt new top false l) same (added_node false slice mid new top a), refl),
      omega (arith, c.used, a.adds.one_more),
    ))
    added
