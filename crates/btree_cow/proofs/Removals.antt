-- A chunk that is taken out of a tree.
use Rattle.std.proofs.Common.{◌≡◌, ◌⊎◌, inl, inr, ℕ, zero, suc, ◌<◌, ◌≤◌, ◌+◌, Bool, true, false, List, [], ◌∷◌, ◌++◌, length, refl, sym, ap, ◌∙◌, subst, arith, append-nil, true≢false}
use Rattle.std.specs.Prelude.{Option, Some, None, IsTrue, Result, Ok, Err, IfOk}
use Rattle.std.specs.List.{list_all}
use Rattle.std.proofs.lemmas.Bool.{and_parts, ltb-true, lt-ltb}
use Rattle.forest_model.specs.declared.refusal.Refusal.{Refusal}
use Rattle.node_page.specs.Nodes.{Entry, rises}
use Rattle.btree_cow.specs.Shelf.{Shelf, Later, LieBelow}
use Rattle.btree_cow.specs.Trees.{lies_in, border, Fan, NodeAt, TreeAt, Tree, value_of}
use Rattle.btree_cow.specs.Changes.{without_entry, StaysWell}
use Rattle.btree_cow.specs.Growing.{AddsNode, IsChild, IsCut, IsRead}
use Rattle.btree_cow.specs.Shrinking.{Content, Gap, IsChanged, IsSame, Left, Passes, Refills, Remains, Removes, Roots, Settles, led_to}
use Rattle.btree_cow.specs.declared.overfull.Node.{Node}
use Rattle.btree_cow.specs.declared.grown.Grown.TheVariants.{One}
use Rattle.btree_cow.specs.declared.shrunk.Shrunk.{Shrunk}
use Rattle.btree_cow.specs.declared.shrunk.Shrunk.TheVariants.{Absent, Stored, Short}
use Rattle.btree_cow.proofs.Finds.{all_so, all_back}
use Rattle.btree_cow.proofs.Borders.{at_least, below, lies, raise}
use Rattle.btree_cow.proofs.Fans.{fan_split, fan_inside, tree_inside}
use Rattle.btree_cow.proofs.Breaks.{one_at}
use Rattle.btree_cow.proofs.WithEntries.{is_over, is_under}
use Rattle.btree_cow.proofs.Growth.{added_tree, fan_over, holds_of, tree_later, tree_lower, under_next}
use Rattle.btree_cow.proofs.WithoutEntries.{all_without, fewer_within, is_other, never_fewer, one_less, over_other, under_other, without_within}
use Rattle.btree_cow.proofs.Contents.{any_value, any_well, content_holds, content_of, root_any, tree_least}
use Rattle.btree_cow.proofs.Pairs.{led_at, length_led}
use Rattle.btree_cow.proofs.Gaps.{placed}

-- ---- a node that is stored, or is too short

pub settles_stored : (leaf : Bool) (content slice : List Entry) (old new : Shelf) (block : ℕ) → slice ≡ content → 126 ≤ length content → AddsNode leaf slice old new block → Settles leaf content old new (Stored block)
settles_stored leaf content slice old new block same long added =
    record {
      each = λ ok height least low high entries well small enough c.
          added_tree ok old new height least block leaf content low high entries (subst (λ (l : List Entry). AddsNode leaf l old new block) same added) (omega arith)
          (content_holds ok old height leaf content low high entries (omega arith) c);
    }

pub changed_same : (old new : Shelf) (shrunk : Shrunk) → IsChanged shrunk → IsSame old new shrunk
changed_same old new Absent h = absurd h
changed_same old new (Stored block) h = tt
changed_same old new (Short node) h = tt

left_of : (ok : ℕ → ℕ → Bool) (s : Shelf) (height least low : ℕ) (high : Option ℕ) (entries : List Entry) (chunk : ℕ) (shrunk : Shrunk) → length (without_entry entries chunk) < length entries
    → Remains ok s height least low high (without_entry entries chunk) shrunk → Left ok s height least low high entries chunk shrunk
left_of ok s height least low high entries chunk Absent less r = absurd r
left_of ok s height least low high entries chunk (Stored block) less r = (r, less)
left_of ok s height least low high entries chunk (Short node) less r = (r, less)

-- ---- a leaf

leaf_step : (ok : ℕ → ℕ → Bool) (old new : Shelf) (height least low chunk : ℕ) (high : Option ℕ) (content entries : List Entry) (shrunk : Shrunk) → StaysWell ok → least ≤ 126 → least ≤ length content → rises content ≡ true
    → length (without_entry content chunk) < length content → Settles true (without_entry content chunk) old new shrunk → Content ok old height true content low high entries → Left ok new height least low high entries chunk shrunk
leaf_step ok old new zero least low chunk high content entries shrunk well small enough rise less settles c =
    left_of ok new zero least low high entries chunk shrunk (subst (λ (l : List Entry). length (without_entry l chunk) < length l) (sym c.1) less)
    (settles.each ok zero least low high (without_entry entries chunk) well small (omega (arith, one_less content chunk rise))
    (refl, ap (λ (l : List Entry). without_entry l chunk) c.1, all_without (lies_in low high) content chunk c.2, all_without (λ (e : Entry). ok old.used e.1) content chunk c.3))
leaf_step ok old new (suc height) least low chunk high content entries shrunk well small enough rise less settles c = absurd (true≢false c.0)

leaf_removes : (old new : Shelf) (at chunk : ℕ) (content : List Entry) (shrunk : Shrunk) → LieBelow old → NodeAt old at true content → length (without_entry content chunk) < length content → Settles true (without_entry content chunk) old new shrunk
    → Removes at chunk old new shrunk
leaf_removes old new at chunk content shrunk lie node less settles =
    record {
      each = λ ok height least low high entries well small tree.
          let c = content_of ok old height least at true content low high entries well lie node tree in
          leaf_step ok old new height least low chunk high content entries shrunk well small c.1 node.2.rise less settles c.0;
    }

absent_step : (ok : ℕ → ℕ → Bool) (old : Shelf) (height low chunk : ℕ) (high : Option ℕ) (content entries : List Entry) → without_entry content chunk ≡ content → Content ok old height true content low high entries → without_entry entries chunk ≡ entries
absent_step ok old zero low chunk high content entries same c = subst (λ (l : List Entry). without_entry l chunk ≡ l) (sym c.1) same
absent_step ok old (suc height) low chunk high content entries same c = absurd (true≢false c.0)

leaf_absent : (old : Shelf) (at chunk : ℕ) (content : List Entry) → LieBelow old → NodeAt old at true content → without_entry content chunk ≡ content → Removes at chunk old old Absent
leaf_absent old at chunk content lie node same =
    record {
      each = λ ok height least low high entries well small tree.
          absent_step ok old height low chunk high content entries same (content_of ok old height least at true content low high entries well lie node tree).0;
    }

-- ---- an inner node

-- what stands around the child in which a chunk can lie
record Around (ok : ℕ → ℕ → Bool) (first s : Shelf) (height least chunk : ℕ) (children before : List Entry) (chosen : Entry) (after : List Entry) (low : ℕ) (high : Option ℕ) (entries : List Entry) : Type 0 where
  front : List Entry
  own : List Entry
  rest : List Entry
  together : entries ≡ front ++ (own ++ rest)
  ahead : Fan (TreeAt ok s height 126) s.used before (Some chosen.0) front
  child : TreeAt ok first height 126 chosen.1 chosen.0 (border after high) own
  behind : Fan (TreeAt ok s height 126) s.used after high rest
  lies : list_all (lies_in low high) children ≡ true
  enough : least ≤ length children
  two : 2 ≤ length children
  others : list_all (is_other chunk) front ≡ true
  others' : list_all (is_other chunk) rest ≡ true

module _ (ok : ℕ → ℕ → Bool) (s : Shelf) (height : ℕ) where
  abbrev In : ℕ → ℕ → Option ℕ → List Entry → Type 0
  In = TreeAt ok s height 126

  inside : (at low : ℕ) (high : Option ℕ) (es : List Entry) → In at low high es → list_all (lies_in low high) es ≡ true
  inside at low high es tree = tree_inside ok s height 126 at low high es tree

  fan_before : (at chunk : ℕ) (before front : List Entry) (chosen : Entry) → list_all (is_under chosen.0) before ≡ true → (chosen.0 ≤ chunk) ⊎ (before ≡ []) → Fan In at before (Some chosen.0) front → list_all (is_other chunk) front ≡ true
  fan_before at chunk before front chosen under (inl low) fan =
      under_other chunk front
      (all_so (lies_in 0 (Some chosen.0)) (is_under chunk) (λ e l. let less : e.0 < chosen.0 = below 0 (Some chosen.0) e l in lt-ltb e.0 chunk (omega arith)) front
      (fan_inside In inside at 0 (Some chosen.0) before front
      (all_so (is_under chosen.0) (lies_in 0 (Some chosen.0)) (λ e l. lies 0 (Some chosen.0) e (omega arith) (ltb-true e.0 chosen.0 l)) before under) fan))
  fan_before at chunk before front chosen under (inr none) fan =
      let empty : Fan In at [] (Some chosen.0) front = subst (λ (l : List Entry). Fan In at l (Some chosen.0) front) none fan in
      ap (list_all (is_other chunk)) empty

  fan_behind : (at low chunk : ℕ) (high : Option ℕ) (after rest : List Entry) → list_all (lies_in low high) after ≡ true → list_all (is_over chunk) after ≡ true → Fan In at after high rest → list_all (is_other chunk) rest ≡ true
  fan_behind at low chunk high after rest all over fan =
      over_other chunk rest
      (all_so (lies_in (chunk + 1) high) (is_over chunk) (λ e l. let up : chunk + 1 ≤ e.0 = at_least (chunk + 1) high e l in lt-ltb chunk e.0 (omega arith)) rest
      (fan_inside In inside at (chunk + 1) high after rest (raise low chunk high after all over) fan))

around : (ok : ℕ → ℕ → Bool) (first s : Shelf) (height least at chunk place low : ℕ) (high : Option ℕ) (children entries : List Entry) (cut : IsCut children chunk place) → LieBelow first → Later first s → StaysWell ok → NodeAt first at false children
    → TreeAt ok first (suc height) least at low high entries → Around ok first s height least chunk children cut.before cut.chosen cut.after low high entries
around ok first s height least at chunk place low high children entries cut lie later well node tree =
    let c = holds_of ok first (suc height) least at false children low high entries well lie node tree in
    let parts = c.0 in
    let whole : Fan (TreeAt ok first height 126) first.used (cut.before ++ cut.chosen ∷ cut.after) high entries = subst (λ (l : List Entry). Fan (TreeAt ok first height 126) first.used l high entries) cut.split parts.3 in
    let all : list_all (lies_in low high) (cut.before ++ cut.chosen ∷ cut.after) ≡ true = ap (list_all (lies_in low high)) (sym cut.split) ∙ parts.2 in
    let rise : rises (cut.before ++ cut.chosen ∷ cut.after) ≡ true = ap rises (sym cut.split) ∙ node.2.rise in
    let fans = fan_split (TreeAt ok first height 126) first.used cut.before (cut.chosen ∷ cut.after) high entries whole in
    let here : Fan (TreeAt ok first height 126) first.used (cut.chosen ∷ cut.after) high fans.1 = fans.4 in
    let move : (at low : ℕ) (high : Option ℕ) (es : List Entry) → TreeAt ok first height 126 at low high es → TreeAt ok s height 126 at low high es = λ a l h es t. tree_later ok first s later height 126 a l h es t in
    record {
      front = fans.0;
      own = here.1;
      rest = here.2;
      together = fans.2 ∙ ap (λ (l : List Entry). fans.0 ++ l) here.3;
      ahead = fan_over (TreeAt ok first height 126) (TreeAt ok s height 126) move first.used s.used later.used cut.before (Some cut.chosen.0) fans.0 fans.3;
      child = here.4;
      behind = fan_over (TreeAt ok first height 126) (TreeAt ok s height 126) move first.used s.used later.used cut.after high here.2 here.5;
      lies = parts.2;
      enough = c.1;
      two = parts.1;
      others = fan_before ok first height first.used chunk cut.before fans.0 cut.chosen (under_next cut.before (cut.chosen ∷ cut.after) (omega arith) rise) cut.upto fans.3;
      others' = fan_behind ok first height first.used low chunk high cut.after here.2 (and_parts (lies_in low high cut.chosen) (list_all (lies_in low high) cut.after) (all_back (lies_in low high) cut.before (cut.chosen ∷ cut.after) all)).1 cut.past here.5;
    }

without_around : (ok : ℕ → ℕ → Bool) (first s : Shelf) (height least chunk : ℕ) (children before : List Entry) (chosen : Entry) (after : List Entry) (low : ℕ) (high : Option ℕ) (entries : List Entry)
    → (a : Around ok first s height least chunk children before chosen after low high entries) → without_entry entries chunk ≡ a.front ++ (without_entry a.own chunk ++ a.rest)
without_around ok first s height least chunk children before chosen after low high entries a =
    ap (λ (l : List Entry). without_entry l chunk) a.together ∙ without_within a.front a.own a.rest chunk a.others a.others'

fewer_around : (ok : ℕ → ℕ → Bool) (first s : Shelf) (height least chunk : ℕ) (children before : List Entry) (chosen : Entry) (after : List Entry) (low : ℕ) (high : Option ℕ) (entries : List Entry)
    → (a : Around ok first s height least chunk children before chosen after low high entries) → length (without_entry a.own chunk) < length a.own → length (without_entry entries chunk) < length entries
fewer_around ok first s height least chunk children before chosen after low high entries a less =
    subst (λ (l : List Entry). length (without_entry l chunk) < length l) (sym a.together) (fewer_within a.front a.own a.rest chunk a.others a.others' less)

-- nothing is taken from the child
absent_passes : (ok : ℕ → ℕ → Bool) (first old : Shelf) (height least at chunk place low : ℕ) (high : Option ℕ) (children entries : List Entry) (cut : IsCut children chunk place) → LieBelow first → Later first old → StaysWell ok → NodeAt first at false children
    → Removes cut.chosen.1 chunk first old Absent → TreeAt ok first height least at low high entries → without_entry entries chunk ≡ entries
absent_passes ok first old zero least at chunk place low high children entries cut lie later well node removes tree = absurd (true≢false (one_at first at true false entries children tree.0 node).0)
absent_passes ok first old (suc height) least at chunk place low high children entries cut lie later well node removes tree =
    let a = around ok first old height least at chunk place low high children entries cut lie later well node tree in
    let whole : without_entry a.own chunk ≡ a.own = removes.each ok height 126 cut.chosen.0 (border cut.after high) a.own well (omega arith) a.child in
    without_around ok first old height least chunk children cut.before cut.chosen cut.after low high entries a
    ∙ ap (λ (l : List Entry). a.front ++ (l ++ a.rest)) whole ∙ sym a.together

pub passes_absent : (old : Shelf) (children : List Entry) (place : ℕ) → Passes children place Absent old old Absent
passes_absent old children place =
    record {
      each = λ first at chunk cut lie later node removes.
          record { each = λ ok height least low high entries well small tree. absent_passes ok first old height least at chunk place low high children entries cut lie later well node removes tree };
    }

-- the child is stored
stored_passes : (ok : ℕ → ℕ → Bool) (first old new : Shelf) (height least at chunk place low block : ℕ) (high : Option ℕ) (children entries : List Entry) (cut : IsCut children chunk place) (result : Shrunk) → LieBelow first → LieBelow old → Later first old → StaysWell ok
    → least ≤ 126 → NodeAt first at false children → Removes cut.chosen.1 chunk first old (Stored block) → Settles false (led_to children place block) old new result → TreeAt ok first height least at low high entries
    → Left ok new height least low high entries chunk result
stored_passes ok first old new zero least at chunk place low block high children entries cut result lie lie' later well small node removes settles tree = absurd (true≢false (one_at first at true false entries children tree.0 node).0)
stored_passes ok first old new (suc height) least at chunk place low block high children entries cut result lie lie' later well small node removes settles tree =
    let a = around ok first old height least at chunk place low high children entries cut lie later well node tree in
    let l = removes.each ok height 126 cut.chosen.0 (border cut.after high) a.own well (omega arith) a.child in
    let all : list_all (lies_in low high) (cut.before ++ cut.chosen ∷ cut.after) ≡ true = ap (list_all (lies_in low high)) (sym cut.split) ∙ a.lies in
    let c = placed ok old lie' height low high cut.before cut.chosen cut.after (One block) a.front (without_entry a.own chunk) a.rest all a.ahead l.0 a.behind in
    let is : cut.before ++ (cut.chosen.0, block) ∷ cut.after ≡ led_to children place block =
    sym (ap (λ (l : List Entry). led_to l place block) cut.split ∙ led_at cut.before cut.chosen cut.after place block cut.place) in
    let content : Content ok old (suc height) false (led_to children place block) low high (without_entry entries chunk) =
    subst (λ (l : List Entry). Content ok old (suc height) false (led_to children place block) low high l)
    (sym (without_around ok first old height least chunk children cut.before cut.chosen cut.after low high entries a))
    (subst (λ (l : List Entry). Content ok old (suc height) false l low high (a.front ++ (without_entry a.own chunk ++ a.rest))) is c) in
    let long : length (led_to children place block) ≡ length children = length_led children place block in
    left_of ok new (suc height) least low high entries chunk result (fewer_around ok first old height least chunk children cut.before cut.chosen cut.after low high entries a l.1)
    (settles.each ok (suc height) least low high (without_entry entries chunk) well small (omega (arith, long, a.enough)) content)

pub passes_stored : (old new : Shelf) (children : List Entry) (place block : ℕ) (result : Shrunk) → LieBelow old → Settles false (led_to children place block) old new result → Passes children place (Stored block) old new result
passes_stored old new children place block result lie' settles =
    record {
      each = λ first at chunk cut lie later node removes.
          record {
            each = λ ok height least low high entries well small tree.
                stored_passes ok first old new height least at chunk place low block high children entries cut result lie lie' later well small node removes settles tree;
          };
    }

-- the child is too short
short_passes : (ok : ℕ → ℕ → Bool) (first old mid new : Shelf) (height least at chunk place low : ℕ) (high : Option ℕ) (children after entries : List Entry) (cut : IsCut children chunk place) (short : Node) (result : Shrunk) → LieBelow first → Later first old → StaysWell ok
    → least ≤ 126 → NodeAt first at false children → Removes cut.chosen.1 chunk first old (Short short) → Refills short.leaf short.entries.items children place old mid after → Settles false after mid new result
    → TreeAt ok first height least at low high entries → Left ok new height least low high entries chunk result
short_passes ok first old mid new zero least at chunk place low high children after entries cut short result lie later well small node removes refills settles tree = absurd (true≢false (one_at first at true false entries children tree.0 node).0)
short_passes ok first old mid new (suc height) least at chunk place low high children after entries cut short result lie later well small node removes refills settles tree =
    let a = around ok first old height least at chunk place low high children entries cut lie later well node tree in
    let l = removes.each ok height 126 cut.chosen.0 (border cut.after high) a.own well (omega arith) a.child in
    let gap : Gap ok old height short.leaf short.entries.items children place low high (without_entry entries chunk) = record {
      before = cut.before;
      chosen = cut.chosen;
      after = cut.after;
      split = cut.split;
      here = cut.place;
      first = a.front;
      own = without_entry a.own chunk;
      rest = a.rest;
      together = without_around ok first old height least chunk children cut.before cut.chosen cut.after low high entries a;
      ahead = a.ahead;
      holds = l.0.0;
      enough = omega (arith, l.0.1);
      behind = a.behind;
      lies = a.lies;
    } in
    let filled = refills.each ok height low high (without_entry entries chunk) well a.two gap in
    left_of ok new (suc height) least low high entries chunk result (fewer_around ok first old height least chunk children cut.before cut.chosen cut.after low high entries a l.1)
    (settles.each ok (suc height) least low high (without_entry entries chunk) well small (omega (arith, filled.1, a.enough)) filled.0)

pub passes_short : (old mid new : Shelf) (children after : List Entry) (place : ℕ) (short : Node) (result : Shrunk) → Refills short.leaf short.entries.items children place old mid after → Settles false after mid new result
    → Passes children place (Short short) old new result
passes_short old mid new children after place short result refills settles =
    record {
      each = λ first at chunk cut lie later node removes.
          record {
            each = λ ok height least low high entries well small tree.
                short_passes ok first old mid new height least at chunk place low high children after entries cut short result lie later well small node removes refills settles tree;
          };
    }

-- ---- the root

roots_step : (ok : ℕ → ℕ → Bool) (old new : Shelf) (height at : ℕ) (leaf : Bool) (content entries : List Entry) → 1 ≤ length content → (leaf ≡ false → length content ≡ 1 → ⊥) → AddsNode leaf content old new at → Content ok old height leaf content 0 None entries
    → Tree ok new (Some at) entries
roots_step ok old new zero at leaf content entries some many added c = (zero, added_tree ok old new zero 1 at leaf content 0 None entries added some c)
roots_step ok old new (suc height) at leaf content entries some many added c =
    let more : 2 ≤ length content = omega (arith, some, many c.0) in
    (suc height, added_tree ok old new (suc height) 1 at leaf content 0 None entries added some (content_holds ok old (suc height) leaf content 0 None entries more c))

pub roots_stored : (old new : Shelf) (at : ℕ) (leaf : Bool) (content slice : List Entry) → slice ≡ content → 1 ≤ length content → (leaf ≡ false → length content ≡ 1 → ⊥) → AddsNode leaf slice old new at → Roots leaf content old new (Some at)
roots_stored old new at leaf content slice same some many added =
    record { each = λ ok height entries well c. roots_step ok old new height at leaf content entries some many (subst (λ (l : List Entry). AddsNode leaf l old new at) same added) c }

child_step : (ok : ℕ → ℕ → Bool) (s : Shelf) (height : ℕ) (child : Entry) (entries : List Entry) → Content ok s height false (child ∷ []) 0 None entries → Tree ok s (Some child.1) entries
child_step ok s zero child entries c = absurd (true≢false (sym c.0))
child_step ok s (suc height) child entries c =
    let fan : Fan (TreeAt ok s height 126) s.used (child ∷ []) None entries = c.3 in
    let whole : entries ≡ fan.1 = fan.3 ∙ ap (λ (l : List Entry). fan.1 ++ l) fan.5 ∙ append-nil fan.1 in (
      height,
      subst (λ (l : List Entry). TreeAt ok s height 1 child.1 0 None l) (sym whole)
          (tree_lower ok s height 1 child.1 child.0 0 None fan.1 (omega arith) (tree_least ok s height 126 1 child.1 child.0 None fan.1 (omega arith) fan.4)),
    )

pub roots_child : (s : Shelf) (leaf : Bool) (content : List Entry) (block : ℕ) → (leaf ≡ false) × (c : Entry) × (content ≡ c ∷ []) × (c.1 ≡ block) → Roots leaf content s s (Some block)
roots_child s leaf content block is =
    record {
      each = λ ok height entries well c.
          subst (λ (n : ℕ). Tree ok s (Some n) entries) is.3
          (child_step ok s height is.1 entries (subst (λ (l : List Entry). Content ok s height false l 0 None entries) is.2 (subst (λ (b : Bool). Content ok s height b content 0 None entries) is.0 c)));
    }

-- ---- as the code has it

on_ok : {A E : Type 0} (r : Result A E) (P Q : A → Type 0) → ((a : A) → P a → Q a) → IfOk r P → IfOk r Q
on_ok (Ok a) P Q so h = so a h
on_ok (Err e) P Q so h = h

pub leaf_removed : (tells : Bool) (old new : Shelf) (r : Result Shrunk Refusal) (at chunk : ℕ) (leaf : Bool) (content after : List Entry) → LieBelow old → leaf ≡ true → NodeAt old at true content → after ≡ without_entry content chunk → length after < length content
    → IfOk r (Settles leaf after old new) → IfOk r (Removes at chunk old new)
leaf_removed tells old new r at chunk leaf content after lie is node left less settles =
    on_ok r (Settles leaf after old new) (Removes at chunk old new)
    (λ shrunk s.
    leaf_removes old new at chunk content shrunk lie node (subst (λ (l : List Entry). length l < length content) left less)
    (subst (λ (l : List Entry). Settles true l old new shrunk) left (subst (λ (b : Bool). Settles b after old new shrunk) is s)))
    settles

pub leaf_kept : (old : Shelf) (at chunk : ℕ) (content after : List Entry) → LieBelow old → NodeAt old at true content → after ≡ without_entry content chunk → after ≡ content → Removes at chunk old old Absent
leaf_kept old at chunk content after lie node left same = leaf_absent old at chunk content lie node (sym left ∙ same)

pub stored_passed : (old new : Shelf) (r : Result Shrunk Refusal) (leaf : Bool) (children after : List Entry) (place block : ℕ) (shrunk : Shrunk) → LieBelow old → leaf ≡ false → shrunk ≡ Stored block → after ≡ led_to children place block
    → IfOk r (Settles leaf after old new) → IfOk r (Passes children place shrunk old new)
stored_passed old new r leaf children after place block shrunk lie is stored led settles =
    on_ok r (Settles leaf after old new) (Passes children place shrunk old new)
    (λ result s.
    subst (λ (x : Shrunk). Passes children place x old new result) (sym stored)
    (passes_stored old new children place block result lie (subst (λ (l : List Entry). Settles false l old new result) led (subst (λ (b : Bool). Settles b after old new result) is s))))
    settles

pub short_passed : (old mid new : Shelf) (r : Result Shrunk Refusal) (leaf : Bool) (children after : List Entry) (place : ℕ) (shrunk : Shrunk) (short : Node) → leaf ≡ false → shrunk ≡ Short short → Refills short.leaf short.entries.items children place old mid after
    → IfOk r (Settles leaf after mid new) → IfOk r (Passes children place shrunk old new)
short_passed old mid new r leaf children after place shrunk short is same refills settles =
    on_ok r (Settles leaf after mid new) (Passes children place shrunk old new)
    (λ result s.
    subst (λ (x : Shrunk). Passes children place x old new result) (sym same)
    (passes_short old mid new children after place short result refills (subst (λ (b : Bool). Settles b after mid new result) is s)))
    settles

pub absent_passed : (old : Shelf) (children : List Entry) (place : ℕ) (shrunk : Shrunk) → shrunk ≡ Absent → Passes children place shrunk old old Absent
absent_passed old children place shrunk is = subst (λ (x : Shrunk). Passes children place x old old Absent) (sym is) (passes_absent old children place)

told_node : (tells : Bool) (s : Shelf) (at : ℕ) (leaf leaf' : Bool) (content : List Entry) → IsTrue tells → leaf ≡ leaf' → IsRead tells s at leaf content → NodeAt s at leaf' content
told_node tells s at leaf leaf' content told is read = subst (λ (b : Bool). NodeAt s at b content) is (read.node told)

pub inner_removed : (tells : Bool) (old mid mid' new : Shelf) (r : Result Shrunk Refusal) (at chunk place child : ℕ) (leaf : Bool) (content children : List Entry) (shrunk : Shrunk) → IsTrue tells → LieBelow old → mid ≡ old → leaf ≡ false → IsRead tells old at leaf content
    → children ≡ content → IsChild children chunk place child → Later mid mid' → Removes child chunk mid mid' shrunk → IfOk r (Passes content place shrunk mid' new) → IfOk r (Removes at chunk old new)
inner_removed tells old mid mid' new r at chunk place child leaf content children shrunk told lie kept is read same c later removes passes =
    let c' : IsChild content chunk place child = subst (λ (l : List Entry). IsChild l chunk place child) same c in
    on_ok r (Passes content place shrunk mid' new) (Removes at chunk old new)
    (λ result p.
    p.each old at chunk c'.cut lie (subst (λ (m : Shelf). Later m mid') kept later) (told_node tells old at leaf false content told is read)
    (subst (λ (n : ℕ). Removes n chunk old mid' shrunk) (sym c'.leads) (subst (λ (m : Shelf). Removes child chunk m mid' shrunk) kept removes)))
    passes

-- ---- the root

-- a chunk that isn't there isn't taken out
never_changed : (ok : ℕ → ℕ → Bool) (old new : Shelf) (root : Option ℕ) (at chunk : ℕ) (entries : List Entry) (shrunk : Shrunk) → root ≡ Some at → Tree ok old root entries → value_of entries chunk ≡ None → IsChanged shrunk → Removes at chunk old new shrunk → ⊥
never_changed ok old new root at chunk entries Absent is tree absent changed removes = changed
never_changed ok old new root at chunk entries (Stored block) is tree absent changed removes =
    let here : Tree any_value old (Some at) entries = subst (λ (o : Option ℕ). Tree any_value old o entries) is (root_any ok old root entries tree) in
    never_fewer entries chunk absent (removes.each any_value here.0 1 0 None entries any_well (omega arith) here.1).1
never_changed ok old new root at chunk entries (Short node) is tree absent changed removes =
    let here : Tree any_value old (Some at) entries = subst (λ (o : Option ℕ). Tree any_value old o entries) is (root_any ok old root entries tree) in
    never_fewer entries chunk absent (removes.each any_value here.0 1 0 None entries any_well (omega arith) here.1).1

pub stored_present : (ok : ℕ → ℕ → Bool) (old new : Shelf) (root : Option ℕ) (at chunk block : ℕ) (entries : List Entry) (shrunk : Shrunk) → root ≡ Some at → shrunk ≡ Stored block → Removes at chunk old new shrunk → Tree ok old root entries → value_of entries chunk ≡ None → ⊥
stored_present ok old new root at chunk block entries shrunk is stored removes tree absent =
    never_changed ok old new root at chunk entries (Stored block) is tree absent tt (subst (λ (x : Shrunk). Removes at chunk old new x) stored removes)

pub short_present : (ok : ℕ → ℕ → Bool) (old new : Shelf) (root : Option ℕ) (at chunk : ℕ) (node : Node) (entries : List Entry) (shrunk : Shrunk) → root ≡ Some at → shrunk ≡ Short node → Removes at chunk old new shrunk → Tree ok old root entries → value_of entries chunk ≡ None → ⊥
short_present ok old new root at chunk node entries shrunk is short removes tree absent =
    never_changed ok old new root at chunk entries (Short node) is tree absent tt (subst (λ (x : Shrunk). Removes at chunk old new x) short removes)
