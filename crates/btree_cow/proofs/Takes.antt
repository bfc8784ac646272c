-- The nodes that a removal adds, on any blocks.
use Rattle.std.proofs.Common.{◌≡◌, inl, inr, ℕ, zero, suc, ◌<◌, ◌≤◌, ◌-◌, ◌+◌, Bool, true, false, List, [], ◌∷◌, length, refl, sym, ap, ◌∙◌, subst, arith}
use Rattle.std.specs.Prelude.{Option, Some, None, IsTrue, Result, Ok, Err, IfOk, OnOk, remove}
use Rattle.forest_model.specs.declared.refusal.Refusal.{Refusal}
use Rattle.node_page.specs.Nodes.{Entry, rises}
use Rattle.btree_cow.specs.Shelf.{Shelf, Later}
use Rattle.btree_cow.specs.Trees.{NodeAt}
use Rattle.btree_cow.specs.Changes.{without_entry}
use Rattle.btree_cow.specs.Growing.{AddsNode, IsChild, IsRead}
use Rattle.btree_cow.specs.Shrinking.{IsNeighbour, first_place, led_to, side_by_side, with_joined}
use Rattle.btree_cow.specs.Copies.{IsMade, Makes, node_count}
use Rattle.btree_cow.specs.Takes.{HasNoPartner, IsAlone, IsPassed, IsRefilled, IsRootLeft, IsSettled, LeftAlone, Passed, Refilled, RootLeft, Settled, Taken, Takes, TakesAlong, TakesEntry, TakesOut, stored_count}
use Rattle.btree_cow.specs.declared.overfull.Node.{Node}
use Rattle.btree_cow.specs.declared.grown.Grown.{Grown}
use Rattle.btree_cow.specs.declared.shrunk.Shrunk.{Shrunk}
use Rattle.btree_cow.specs.declared.shrunk.Shrunk.TheVariants.{Absent, Stored, Short}
use Rattle.btree_cow.proofs.Growth.{later_same, node_later}
use Rattle.btree_cow.proofs.Copies.{added_node, made_later, told_node}

on_ok : {A E : Type 0} (r : Result A E) (P Q : A → Type 0) → ((a : A) → P a → Q a) → IfOk r P → IfOk r Q
on_ok (Ok a) P Q so h = so a h
on_ok (Err e) P Q so h = h

-- ---- one node

pub settled_stored : (leaf : Bool) (content slice : List Entry) (old new : Shelf) (block : ℕ) → slice ≡ content → 126 ≤ length content → AddsNode leaf slice old new block → Settled leaf content old new (Stored block)
settled_stored leaf content slice old new block same many added =
    record { settled = (many, subst (λ (l : List Entry). NodeAt new block leaf l) same (added_node leaf slice old new block added), omega (arith, added.adds.at_end)); used = added.adds.one_more }

pub settled_short : (node : Node) (s : Shelf) → length node.entries.items < 126 → Settled node.leaf node.entries.items s s (Short node)
settled_short node s few = record { settled = (few, refl, refl); used = omega arith }

empty_list : (l : List Entry) → length l ≡ 0 → l ≡ []
empty_list [] none = refl
empty_list (e ∷ l) none = absurd (omega arith)

pub alone_gone : (s : Shelf) (leaf : Bool) (content children after : List Entry) (place : ℕ) → length content ≡ 0 → after ≡ remove children place → LeftAlone leaf content children place s s after
alone_gone s leaf content children after place none gone = record { nodes = 0; alone = inl (empty_list content none, gone, refl); used = omega arith }

pub alone_stored : (old new : Shelf) (leaf : Bool) (content slice children after : List Entry) (place block : ℕ) → slice ≡ content → AddsNode leaf slice old new block → after ≡ led_to children place block → LeftAlone leaf content children place old new after
alone_stored old new leaf content slice children after place block same added led =
    record { nodes = 1; alone = inr (block, subst (λ (l : List Entry). NodeAt new block leaf l) same (added_node leaf slice old new block added), omega (arith, added.adds.at_end), led, refl); used = added.adds.one_more }

pub no_neighbour : (at : ℕ) (old new : Shelf) (r : Result (Unit {0}) Refusal) (leaf : Bool) (content children read after : List Entry) (place : ℕ) → read ≡ children → length read ≤ 1 → OnOk r (LeftAlone leaf content children place old new after)
    → OnOk r (Refilled at leaf content children place old new after)
no_neighbour at old new (Ok u) leaf content children read after place same none l =
    record { nodes = l.nodes; refilled = inr (inl (subst (λ (x : List Entry). length x ≤ 1) same none), l.alone); used = l.used }
no_neighbour at old new (Err e) leaf content children read after place same none l = tt

pub no_partner : (tells : Bool) (at : ℕ) (old mid new : Shelf) (r : Result (Unit {0}) Refusal) (leaf level : Bool) (content other children read after : List Entry) (place block : ℕ) (in_front : Bool) → IsTrue tells → mid ≡ old → read ≡ children → IsNeighbour read place in_front block
    → (in_front ≡ true → length read ≤ place + 1) → block < at → IsRead tells old block level other → (level ≡ leaf → rises (side_by_side in_front other content) ≡ false) → (IsTrue tells → Later mid new) → OnOk r (LeftAlone leaf content children place mid new after) → OnOk r (Refilled at leaf content children place old new after)
no_partner tells at old mid new (Ok u) leaf level content other children read after place block in_front told kept same is last low node none later l =
    record {
      nodes = l.nodes;
      refilled = inr (
        inr (
          in_front,
          block,
          level,
          other,
          subst (λ (x : List Entry). IsNeighbour x place in_front block) same is,
          subst (λ (x : List Entry). in_front ≡ true → length x ≤ place + 1) same last,
          low,
          node_later old new block level other (subst (λ (s : Shelf). Later s new) kept (later told)) (node.node told),
          none,
        ),
        subst (λ (s : Shelf). IsAlone s.used new leaf content children place after l.nodes) kept l.alone,
      );
      used = subst (λ (s : Shelf). new.used ≡ s.used + l.nodes) kept l.used;
    }
no_partner tells at old mid new (Err e) leaf level content other children read after place block in_front told kept same is last low node none later l = tt

pub joined_so : (tells : Bool) (at : ℕ) (old mid new : Shelf) (leaf level : Bool) (content other children read slice joined after : List Entry) (place block n : ℕ) (in_front : Bool) (grown : Grown) → IsTrue tells → mid ≡ old → Later mid new → n ≡ first_place in_front place → read ≡ children
    → IsNeighbour read place in_front block → (in_front ≡ true → length read ≤ place + 1) → block < at → IsRead tells old block level other → level ≡ leaf → slice ≡ joined → joined ≡ side_by_side in_front other content → Makes leaf slice mid new grown
    → after ≡ with_joined children n grown → Refilled at leaf content children place old new after
joined_so tells at old mid new leaf level content other children read slice joined after place block n in_front grown told kept later first same is last low node alike sliced beside made put =
    record {
      nodes = node_count grown;
      refilled = inl (
          record {
            in_front = in_front;
            block = block;
            other = other;
            neighbour = subst (λ (x : List Entry). IsNeighbour x place in_front block) same is;
            last = subst (λ (x : List Entry). in_front ≡ true → length x ≤ place + 1) same last;
            beside = low;
            node = subst (λ (b : Bool). NodeAt new block b other) alike (node_later old new block level other (subst (λ (s : Shelf). Later s new) kept later) (node.node told));
            grown = grown;
            made = subst (λ (l : List Entry). IsMade old.used new leaf l grown) (sliced ∙ beside) (subst (λ (s : Shelf). IsMade s.used new leaf slice grown) kept made.made);
            replaced = put ∙ ap (λ (m : ℕ). with_joined children m grown) first;
            count = refl;
          });
      used = subst (λ (s : Shelf). new.used ≡ s.used + node_count grown) kept made.used;
    }

-- ---- what became of a child

pub passed_absent : (at : ℕ) (s : Shelf) (children : List Entry) (place : ℕ) (shrunk : Shrunk) → shrunk ≡ Absent → Passed at children place shrunk s s Absent
passed_absent at s children place shrunk is = subst (λ (x : Shrunk). Passed at children place x s s Absent) (sym is) (record { nodes = 0; passed = (refl, refl); used = omega arith })

pub passed_stored : (at : ℕ) (old new : Shelf) (r : Result Shrunk Refusal) (leaf : Bool) (children after : List Entry) (place block : ℕ) (shrunk : Shrunk) → leaf ≡ false → shrunk ≡ Stored block → after ≡ led_to children place block
    → IfOk r (Settled leaf after old new) → IfOk r (Passed at children place shrunk old new)
passed_stored at old new r leaf children after place block shrunk is stored led settles =
    on_ok r (Settled leaf after old new) (Passed at children place shrunk old new)
    (λ result s.
    let here : Settled false (led_to children place block) old new result = subst (λ (l : List Entry). Settled false l old new result) led (subst (λ (b : Bool). Settled b after old new result) is s) in
    subst (λ (x : Shrunk). Passed at children place x old new result) (sym stored) (record { nodes = stored_count result; passed = (here.settled, refl); used = here.used }))
    settles

settled_later : (low from : ℕ) (mid new : Shelf) (leaf : Bool) (content : List Entry) (shrunk : Shrunk) → low ≤ from → Later mid new → IsSettled from mid leaf content shrunk → IsSettled low new leaf content shrunk
settled_later low from mid new leaf content Absent less later s = s
settled_later low from mid new leaf content (Stored block) less later s = (s.0, node_later mid new block leaf content later s.1, omega (arith, less, s.2))
settled_later low from mid new leaf content (Short node) less later s = s

alone_later : (low from : ℕ) (old new : Shelf) (leaf : Bool) (content children : List Entry) (place : ℕ) (after : List Entry) (nodes : ℕ) → low ≤ from → Later old new → IsAlone from old leaf content children place after nodes
    → IsAlone low new leaf content children place after nodes
alone_later low from old new leaf content children place after nodes less later (inl gone) = inl gone
alone_later low from old new leaf content children place after nodes less later (inr there) = inr (there.0, node_later old new there.0 leaf content later there.1, omega (arith, less, there.2), there.3, there.4)

partner_later : (old new : Shelf) (at : ℕ) (leaf : Bool) (content children : List Entry) (place : ℕ) → Later old new → HasNoPartner old at leaf content children place → HasNoPartner new at leaf content children place
partner_later old new at leaf content children place later (inl none) = inl none
partner_later old new at leaf content children place later (inr h) = inr (h.0, h.1, h.2, h.3, h.4, h.5, h.6, node_later old new h.1 h.2 h.3 later h.7, h.8)

refilled_later : (low from : ℕ) (old new : Shelf) (at : ℕ) (leaf : Bool) (content children : List Entry) (place : ℕ) (after : List Entry) (nodes : ℕ) → low ≤ from → Later old new → IsRefilled from old at leaf content children place after nodes
    → IsRefilled low new at leaf content children place after nodes
refilled_later low from old new at leaf content children place after nodes less later (inl j) = inl (
    record {
      in_front = j.in_front;
      block = j.block;
      other = j.other;
      neighbour = j.neighbour;
      last = j.last;
      beside = j.beside;
      node = node_later old new j.block leaf j.other later j.node;
      grown = j.grown;
      made = made_later low from old new leaf (side_by_side j.in_front j.other content) j.grown less later j.made;
      replaced = j.replaced;
      count = j.count;
    })
refilled_later low from old new at leaf content children place after nodes less later (inr h) = inr (partner_later old new at leaf content children place later h.0, alone_later low from old new leaf content children place after nodes less later h.1)

pub passed_short : (at : ℕ) (old mid new : Shelf) (r : Result Shrunk Refusal) (leaf : Bool) (children after : List Entry) (place : ℕ) (shrunk : Shrunk) (short : Node) → leaf ≡ false → shrunk ≡ Short short → Later mid new
    → Refilled at short.leaf short.entries.items children place old mid after → IfOk r (Settled leaf after mid new) → IfOk r (Passed at children place shrunk old new)
passed_short at old mid new r leaf children after place shrunk short is same later f settles =
    on_ok r (Settled leaf after mid new) (Passed at children place shrunk old new)
    (λ result s.
    let here : Settled false after mid new result = subst (λ (b : Bool). Settled b after mid new result) is s in
    subst (λ (x : Shrunk). Passed at children place x old new result) (sym same)
    (record {
      nodes = f.nodes + stored_count result;
      passed = (after, f.nodes, refilled_later old.used old.used mid new at short.leaf short.entries.items children place after f.nodes (omega arith) later f.refilled, settled_later old.used mid.used new new false after result (omega (arith, f.used)) (later_same new) here.settled, refl);
      used = omega (arith, f.used, here.used);
    }))
    settles

-- ---- a leaf

pub taken_out : (old new : Shelf) (r : Result Shrunk Refusal) (chunk : ℕ) (leaf : Bool) (content after : List Entry) → leaf ≡ true → after ≡ without_entry content chunk → length after < length content → IfOk r (Settled leaf after old new) → IfOk r (TakesOut content chunk old new)
taken_out old new r chunk leaf content after is left less settles =
    on_ok r (Settled leaf after old new) (TakesOut content chunk old new)
    (λ shrunk s.
    let here : Settled true (without_entry content chunk) old new shrunk = subst (λ (l : List Entry). Settled true l old new shrunk) left (subst (λ (b : Bool). Settled b after old new shrunk) is s) in
    record { nodes = stored_count shrunk; taken = inr (subst (λ (l : List Entry). length l < length content) left less, here.settled, refl); used = here.used })
    settles

pub taken_none : (s : Shelf) (chunk : ℕ) (content after : List Entry) → after ≡ without_entry content chunk → after ≡ content → TakesOut content chunk s s Absent
taken_none s chunk content after left same = record { nodes = 0; taken = inl (refl, sym left ∙ same, refl); used = omega arith }

-- ---- down the way

entry_later : (from : ℕ) (mid new : Shelf) (content : List Entry) (chunk : ℕ) (shrunk : Shrunk) (nodes : ℕ) → Later mid new → TakesEntry from mid content chunk shrunk nodes → TakesEntry from new content chunk shrunk nodes
entry_later from mid new content chunk shrunk nodes later (inl none) = inl none
entry_later from mid new content chunk shrunk nodes later (inr some) = inr (some.0, settled_later from from mid new true (without_entry content chunk) shrunk (omega arith) later some.1, some.2)

passed_later : (low from : ℕ) (mid new : Shelf) (at : ℕ) (children : List Entry) (place : ℕ) (below shrunk : Shrunk) (nodes : ℕ) → low ≤ from → Later mid new → IsPassed from mid at children place below shrunk nodes
    → IsPassed low new at children place below shrunk nodes
passed_later low from mid new at children place Absent shrunk nodes less later p = p
passed_later low from mid new at children place (Stored block) shrunk nodes less later p = (settled_later low from mid new false (led_to children place block) shrunk less later p.0, p.1)
passed_later low from mid new at children place (Short node) shrunk nodes less later p =
    (p.0, p.1, refilled_later low from mid new at node.leaf node.entries.items children place p.0 p.1 less later p.2, settled_later low from mid new false p.0 shrunk less later p.3, p.4)

takes_later : (old mid new : Shelf) (links at chunk : ℕ) (shrunk : Shrunk) (nodes : ℕ) → Later mid new → TakesAlong old mid links at chunk shrunk nodes → TakesAlong old new links at chunk shrunk nodes
takes_later old mid new zero at chunk shrunk nodes later p = (p.0, p.1, entry_later old.used mid new p.0 chunk shrunk nodes later p.2)
takes_later old mid new (suc links) at chunk shrunk nodes later p =
    (p.0, p.1, p.2, p.3, p.4, p.5, p.6, p.7, takes_later old mid new links p.3 chunk p.6 p.7 later p.8, p.9, passed_later old.used old.used mid new at p.0 p.2 p.6 shrunk p.9 (omega arith) later p.10, p.11)

pub taken_leaf : (tells : Bool) (old mid new : Shelf) (r : Result Shrunk Refusal) (left at chunk : ℕ) (leaf : Bool) (content : List Entry) → IsTrue tells → mid ≡ old → leaf ≡ true → IsRead tells old at leaf content → IfOk r (TakesOut content chunk mid new) → IfOk r (Taken left at chunk old new)
taken_leaf tells old mid new r left at chunk leaf content told kept is read takes =
    on_ok r (TakesOut content chunk mid new) (Taken left at chunk old new)
    (λ shrunk t.
    record {
      links = 0;
      few = omega arith;
      nodes = t.nodes;
      along = (content, told_node tells old at leaf true content told is read, subst (λ (s : Shelf). TakesEntry s.used new content chunk shrunk t.nodes) kept t.taken);
      used = subst (λ (s : Shelf). new.used ≡ s.used + t.nodes) kept t.used;
    })
    takes

pub taken_inner : (tells : Bool) (old mid mid' new : Shelf) (r : Result Shrunk Refusal) (left rest at chunk place child : ℕ) (leaf : Bool) (content children : List Entry) (shrunk : Shrunk) → IsTrue tells → mid ≡ old → 0 < left → rest ≡ left - 1 → leaf ≡ false → IsRead tells old at leaf content
    → children ≡ content → IsChild children chunk place child → child < at → Taken rest child chunk mid mid' shrunk → Later mid' new → IfOk r (Passed at content place shrunk mid' new) → IfOk r (Taken left at chunk old new)
taken_inner tells old mid mid' new r left rest at chunk place child leaf content children shrunk told kept some less is read same c low below later passes =
    let b : Taken rest child chunk old mid' shrunk = subst (λ (s : Shelf). Taken rest child chunk s mid' shrunk) kept below in
    on_ok r (Passed at content place shrunk mid' new) (Taken left at chunk old new)
    (λ result p.
    record {
      links = suc b.links;
      few = omega (arith, b.few, less, some);
      nodes = b.nodes + p.nodes;
      along = (
        content,
        told_node tells old at leaf false content told is read,
        place,
        child,
        subst (λ (l : List Entry). IsChild l chunk place child) same c,
        low,
        shrunk,
        b.nodes,
        takes_later old mid' new b.links child chunk shrunk b.nodes later b.along,
        p.nodes,
        passed_later old.used mid'.used new new at content place shrunk result p.nodes (omega (arith, b.used)) (later_same new) p.passed,
        refl,
      );
      used = omega (arith, b.used, p.used);
    })
    passes

-- ---- the root

pub root_none : (s : Shelf) (leaf : Bool) (content : List Entry) → length content ≡ 0 → RootLeft leaf content s s None
root_none s leaf content none = record { nodes = 0; left = inl (empty_list content none, refl, refl); used = omega arith }

pub root_child : (s : Shelf) (leaf : Bool) (content : List Entry) (child : ℕ) → (leaf ≡ false) × (c : Entry) × (content ≡ c ∷ []) × (c.1 ≡ child) → RootLeft leaf content s s (Some child)
root_child s leaf content child h = record { nodes = 0; left = inr (inl (h.1, h.0, h.2, ap Some (sym h.3), refl)); used = omega arith }

pub root_stored : (old new : Shelf) (leaf : Bool) (content slice : List Entry) (block : ℕ) → slice ≡ content → AddsNode leaf slice old new block → RootLeft leaf content old new (Some block)
root_stored old new leaf content slice block same added =
    record { nodes = 1; left = inr (inr (block, refl, subst (λ (l : List Entry). NodeAt new block leaf l) same (added_node leaf slice old new block added), omega (arith, added.adds.at_end), refl)); used = added.adds.one_more }

pub takes_absent : (root : Option ℕ) (at chunk : ℕ) (old new : Shelf) (shrunk : Shrunk) → root ≡ Some at → shrunk ≡ Absent → Taken 9 at chunk old new shrunk → Takes root chunk old new (Some at)
takes_absent root at chunk old new shrunk is gone t =
    subst (λ (o : Option ℕ). Takes o chunk old new (Some at)) (sym is)
    (t.links, t.few, Absent, t.nodes, subst (λ (x : Shrunk). TakesAlong old new t.links at chunk x t.nodes) gone t.along, 0, (refl, refl), omega (arith, t.used))

pub takes_stored : (root : Option ℕ) (at chunk block : ℕ) (old new : Shelf) (shrunk : Shrunk) → root ≡ Some at → shrunk ≡ Stored block → Taken 9 at chunk old new shrunk → Takes root chunk old new (Some block)
takes_stored root at chunk block old new shrunk is stored t =
    subst (λ (o : Option ℕ). Takes o chunk old new (Some block)) (sym is)
    (t.links, t.few, Stored block, t.nodes, subst (λ (x : Shrunk). TakesAlong old new t.links at chunk x t.nodes) stored t.along, 0, (refl, refl), omega (arith, t.used))

left_from : (low from : ℕ) (s : Shelf) (leaf : Bool) (content : List Entry) (root : Option ℕ) (nodes : ℕ) → low ≤ from → IsRootLeft from s leaf content root nodes → IsRootLeft low s leaf content root nodes
left_from low from s leaf content root nodes less (inl none) = inl none
left_from low from s leaf content root nodes less (inr (inl child)) = inr (inl child)
left_from low from s leaf content root nodes less (inr (inr there)) = inr (inr (there.0, there.1, there.2, omega (arith, less, there.3), there.4))

pub takes_short : (r : Result (Option ℕ) Refusal) (root : Option ℕ) (at chunk : ℕ) (node : Node) (old mid new : Shelf) (shrunk : Shrunk) → root ≡ Some at → shrunk ≡ Short node → Later mid new → Taken 9 at chunk old mid shrunk
    → IfOk r (RootLeft node.leaf node.entries.items mid new) → IfOk r (Takes root chunk old new)
takes_short r root at chunk node old mid new shrunk is short later t left =
    on_ok r (RootLeft node.leaf node.entries.items mid new) (Takes root chunk old new)
    (λ top l.
    subst (λ (o : Option ℕ). Takes o chunk old new top) (sym is) (
      t.links,
      t.few,
      Short node,
      t.nodes,
      takes_later old mid new t.links at chunk (Short node) t.nodes later (subst (λ (x : Shrunk). TakesAlong old mid t.links at chunk x t.nodes) short t.along),
      l.nodes,
      left_from old.used mid.used new node.leaf node.entries.items top l.nodes (omega (arith, t.used)) l.left,
      omega (arith, t.used, l.used),
    ))
    left
