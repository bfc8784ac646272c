-- A walk down a tree: how it begins, goes on and ends.
use Rattle.std.proofs.Common.{◌≡◌, ◌⊎◌, inl, inr, ℕ, zero, suc, ◌<◌, ◌≤◌, ◌+◌, ◌-◌, ◌^◌, Bool, true, false, List, [], ◌∷◌, ◌++◌, length, refl, sym, ap, ◌∙◌, subst, arith, append_assoc}
use Rattle.std.specs.Prelude.{Option, Some, None, IsTrue, IfSome, nat_lt, slice_get}
use Rattle.std.specs.List.{list_all}
use Rattle.std.specs.Option.{option_or, option_map_or, is_some}
use Rattle.std.proofs.lemmas.Bool.{and_cases, and_parts, ltb-false, ltb-true, true≢false}
use Rattle.std.proofs.lemmas.Option.{same_Some}
use Rattle.node_page.specs.Nodes.{Entry, IsNode, fits}
use Rattle.node_page.specs.declared.page.Page.{Page}
use Rattle.forest_model.specs.declared.refusal.Refusal.{Refusal}
use Rattle.btree_cow.specs.Shelf.{Shelf, Stored, is_stored}
use Rattle.btree_cow.specs.Trees.{lies_in, Fan, NodeAt, TreeAt, nearest, value_of}
use Rattle.btree_cow.specs.Causes.{IsAmong, IsNoNode, Reason}
use Rattle.btree_cow.specs.Barred.{BreaksOnWay, IsBeside, IsHigh, NamesUnder, NodeFails}
use Rattle.btree_cow.specs.Walks.{IsSibling, IsChoice, WayBeside, WayFor, EndsAt, ReachesBeside, edge, first_of}
use Rattle.btree_cow.specs.Finds.{Remains, Finds, IsNearest, IsWithin, block_of, next_place, lie_under}
use Rattle.btree_cow.specs.declared.walk.Place.{Place}
use Rattle.btree_cow.proofs.Finds.{or_found, or_nothing, or_assoc}
use Rattle.btree_cow.proofs.Fans.{tree_inside, tree_some, tree_fit}
use Rattle.btree_cow.proofs.Nearest.{first_found}
use Rattle.btree_cow.proofs.Steps.{IsSound, Step, step_down, nowhere}
use Rattle.btree_cow.proofs.Breaks.{one_at, no_leaf}
use Rattle.btree_cow.proofs.Ways.{way_only}

-- ---- children of a choice

get_behind : (before after : List Entry) (c : Entry) → slice_get (before ++ c ∷ after) (length before) ≡ Some c
get_behind [] after c = refl
get_behind (b ∷ before) after c = get_behind before after c

among : (entries before after : List Entry) (c : Entry) → entries ≡ before ++ c ∷ after → IsAmong c entries
among entries before after c is = (length before, ap (λ (l : List Entry). slice_get l (length before)) is ∙ get_behind before after c)

pub chosen_among : (up : Bool) (q : ℕ) (entries : List Entry) (child : ℕ) (sibling : Option ℕ) → IsChoice up q entries child sibling → (c : Entry) × IsAmong c entries × (c.1 ≡ child)
chosen_among up q entries child sibling ch = (ch.chosen, among entries ch.before ch.after ch.chosen ch.split, ch.child_is)

pub sibling_among : (up : Bool) (entries before after : List Entry) (chosen : Entry) (at : ℕ) → entries ≡ before ++ chosen ∷ after → IsSibling up before after (Some at) → (c : Entry) × IsAmong c entries × (c.1 ≡ at)
sibling_among true entries before after chosen at split is =
    (is.0, among entries (before ++ chosen ∷ []) is.1 is.0 (split ∙ ap (λ (l : List Entry). before ++ chosen ∷ l) is.2 ∙ sym (append_assoc before (chosen ∷ []) (is.0 ∷ is.1))), is.3)
sibling_among false entries before after chosen at split is =
    (is.1, among entries is.0 (chosen ∷ after) is.1 (split ∙ ap (λ (l : List Entry). l ++ chosen ∷ after) is.2 ∙ append_assoc is.0 (is.1 ∷ []) (chosen ∷ after)), is.3)

high_sibling : (sibling : Option ℕ) (at : ℕ) → option_map_or (λ (s : ℕ). nat_lt s at) sibling true ≡ false → (other : ℕ) × (sibling ≡ Some other) × (at ≤ other)
high_sibling None at high = absurd (true≢false high)
high_sibling (Some s) at high = (s, refl, omega (arith, ltb-false s at high))

pub high_choice : (child : ℕ) (sibling : Option ℕ) (at : ℕ) → lie_under child sibling at ≡ false → IsHigh at child sibling
high_choice child sibling at high = elim (and_cases (nat_lt child at) (option_map_or (λ (s : ℕ). nat_lt s at) sibling true) high) [
  | inl here ↦ inl (omega (arith, ltb-false child at here))
  | inr there ↦ inr (high_sibling sibling at there)
]

low_sibling : (sibling : Option ℕ) (at : ℕ) → option_map_or (λ (s : ℕ). nat_lt s at) sibling true ≡ true → IfSome sibling (λ (other : ℕ). other < at)
low_sibling None at low = tt
low_sibling (Some s) at low = ltb-true s at low

pub low_choice : (child : ℕ) (sibling : Option ℕ) (at : ℕ) → lie_under child sibling at ≡ true → (child < at) × IfSome sibling (λ (other : ℕ). other < at)
low_choice child sibling at low =
    let parts = and_parts (nat_lt child at) (option_map_or (λ (s : ℕ). nat_lt s at) sibling true) low in
    (ltb-true child at parts.0, low_sibling sibling at parts.1)

pub no_node : (s : Shelf) (at : ℕ) (page : Page) → is_stored s 2 at page → ((leaf : Bool) (entries : List Entry) → IsNode page leaf entries → ⊥) → IsNoNode s at
no_node s at page stored none leaf entries node =
    let both : Some (record { kind = 2; page = node.0 }) ≡ Some (record { kind = 2; page = page }) = sym node.1 ∙ stored in
    let same : node.0 ≡ page = ap (λ (st : Stored). st.page) (same_Some (record { kind = 2; page = node.0 }) (record { kind = 2; page = page }) both) in
    none leaf entries (subst (λ (p : Page). IsNode p leaf entries) same node.2)

-- ---- the invariant

-- Where a walk in a tree has come, the nearest entry is that of what stands there, else the first one where it goes on.
pub record Leads (ok : ℕ → ℕ → Bool) (s : Shelf) (at : ℕ) (second : Option Place) (with up : Bool) (q : ℕ) (entries : List Entry) : Type 0 where
  pub height : ℕ
  pub least : ℕ
  pub low : ℕ
  pub high : Option ℕ
  pub sub : List Entry
  pub stands : TreeAt ok s height least at low high sub
  pub value : value_of entries q ≡ value_of sub q
  pub rest : List Entry
  pub near : nearest with up entries q ≡ option_or (nearest with up sub q) (first_of up rest)
  pub remains : Remains ok s second rest

-- the sibling nearest to where a walk has come
pub record IsLast (s : Shelf) (up : Bool) (q : ℕ) (from here place : Place) : Type 0 where
  pub depth : ℕ
  pub deeper : place.depth ≡ from.depth + depth
  pub beside : IsBeside s up q from.at depth place.at here.at
  pub deep : here.depth ≡ place.depth + beside.more

pub record IsWalk (tells : Bool) (s : Shelf) (from here : Place) (second : Option Place) (with up : Bool) (q : ℕ) : Type 0 where
  pub within : IsWithin from here
  pub beyond : IfSome second (λ (place : Place). IsWithin from place)
  pub links : ℕ
  pub deep : here.depth ≡ from.depth + links
  pub way_beside : IsTrue tells → WayBeside s up q links from.at None here.at (block_of second)
  pub last : IsTrue tells → IfSome second (λ (place : Place). IsLast s up q from here place)
  pub leads : IsTrue tells → (ok : ℕ → ℕ → Bool) (height least low : ℕ) (high : Option ℕ) (entries : List Entry) → TreeAt ok s height least from.at low high entries → Leads ok s here.at second with up q entries

pub first_none : (up : Bool) → first_of up [] ≡ None
first_none true = refl
first_none false = refl

pub walk_starts : (tells : Bool) (s : Shelf) (from : Place) (with up : Bool) (q : ℕ) → from.depth ≤ 9 → IsWalk tells s from from None with up q
walk_starts tells s from with up q few = record {
  within = record { shallow = few; under = omega arith };
  beyond = tt;
  links = 0;
  deep = omega arith;
  way_beside = λ told. (refl, refl);
  last = λ told. tt;
  leads = λ told ok height least low high entries tree. record {
    height = height;
    least = least;
    low = low;
    high = high;
    sub = entries;
    stands = tree;
    value = refl;
    rest = [];
    near = sym (ap (λ (o : Option Entry). option_or (nearest with up entries q) o) (first_none up) ∙ or_nothing (nearest with up entries q));
    remains = refl;
  };
}

-- ---- one link more

way_beside_more : (s : Shelf) (up : Bool) (q links from : ℕ) (earlier : Option ℕ) (at : ℕ) (last : Option ℕ) (children : List Entry) (child : ℕ) (sibling : Option ℕ)
    → WayBeside s up q links from earlier at last → NodeAt s at false children → IsChoice up q children child sibling → child < at → IfSome sibling (λ (other : ℕ). other < at)
    → WayBeside s up q (suc links) from earlier child (option_or sibling last)
way_beside_more s up q zero from earlier at last children child sibling way node ch low beside = (
  children,
  subst (λ (b : ℕ). NodeAt s b false children) (sym way.0) node,
  child,
  sibling,
  ch,
  subst (λ (b : ℕ). child < b) (sym way.0) low,
  subst (λ (b : ℕ). IfSome sibling (λ (other : ℕ). other < b)) (sym way.0) beside,
  (refl, ap (λ (o : Option ℕ). option_or sibling o) way.1),
)
way_beside_more s up q (suc links) from earlier at last children child sibling way node ch low beside =
    (way.0, way.1, way.2, way.3, way.4, way.5, way.6, way_beside_more s up q links way.2 (option_or way.3 earlier) at last children child sibling way.7 node ch low beside)

block_of_next : (sibling : Option ℕ) (depth : ℕ) (second : Option Place) → option_or sibling (block_of second) ≡ block_of (next_place sibling depth second)
block_of_next None depth second = refl
block_of_next (Some at) depth second = refl

beyond_more : (from here : Place) (second : Option Place) (sibling : Option ℕ) → IsWithin from here → here.depth < 9 → IfSome sibling (λ (other : ℕ). other < here.at) → IfSome second (λ (place : Place). IsWithin from place)
    → IfSome (next_place sibling (here.depth + 1) second) (λ (place : Place). IsWithin from place)
beyond_more from here second None within few low before = before
beyond_more from here second (Some at) within few low before = record { shallow = omega arith; under = omega (arith, within.under, low) }

-- a sibling stays the nearest one where the next node has none
last_on : (s : Shelf) (up : Bool) (q : ℕ) (from here : Place) (second : Option Place) (children : List Entry) (child : ℕ) → here.depth < 9 → NodeAt s here.at false children → IsChoice up q children child None → child < here.at
    → IfSome second (λ (place : Place). IsLast s up q from here place) → IfSome second (λ (place : Place). IsLast s up q from (record { at = child; depth = here.depth + 1 }) place)
last_on s up q from here None children child few node ch low l = l
last_on s up q from here (Some place) children child few node ch low l = record {
  depth = l.depth;
  deeper = l.deeper;
  beside = record {
    links = l.beside.links;
    parent = l.beside.parent;
    way = l.beside.way;
    children = l.beside.children;
    node = l.beside.node;
    child = l.beside.child;
    choice = l.beside.choice;
    below = l.beside.below;
    beside = l.beside.beside;
    more = suc l.beside.more;
    rest = way_beside_more s up q l.beside.more l.beside.child None here.at None children child None l.beside.rest node ch low tt;
    few = omega (arith, few, l.deep, l.deeper, l.beside.depth_is);
    depth_is = l.beside.depth_is;
  };
  deep = omega (arith, l.deep);
}

last_more : (s : Shelf) (up : Bool) (q : ℕ) (from here : Place) (second : Option Place) (links : ℕ) (children : List Entry) (child : ℕ) (sibling : Option ℕ) → here.depth < 9 → here.depth ≡ from.depth + links → WayFor s up q links from.at here.at
    → NodeAt s here.at false children → IsChoice up q children child sibling → child < here.at → IfSome sibling (λ (other : ℕ). other < here.at) → IfSome second (λ (place : Place). IsLast s up q from here place)
    → IfSome (next_place sibling (here.depth + 1) second) (λ (place : Place). IsLast s up q from (record { at = child; depth = here.depth + 1 }) place)
last_more s up q from here second links children child None few deep way node ch low beside l = last_on s up q from here second children child few node ch low l
last_more s up q from here second links children child (Some at) few deep way node ch low beside l = record {
  depth = links + 1;
  deeper = omega (arith, deep);
  beside = record {
    links = links;
    parent = here.at;
    way = way;
    children = children;
    node = node;
    child = child;
    choice = ch;
    below = low;
    beside = beside;
    more = 0;
    rest = (refl, refl);
    few = omega (arith, few, deep);
    depth_is = refl;
  };
  deep = omega arith;
}

sound : (ok : ℕ → ℕ → Bool) (s : Shelf) (height : ℕ) → IsSound (TreeAt ok s height 126)
sound ok s height = record {
  inside = λ at low high es tree. tree_inside ok s height 126 at low high es tree;
  some = λ at low high es tree. tree_some ok s height 126 at low high es tree;
  fit = λ at low high es tree. tree_fit ok s height 126 at low high es tree;
}

-- an inner node of a tree, by its children
pub record IsInner (ok : ℕ → ℕ → Bool) (s : Shelf) (height at low : ℕ) (high : Option ℕ) (children entries : List Entry) : Type 0 where
  pub lie : list_all (lies_in low high) children ≡ true
  pub fan : Fan (TreeAt ok s height 126) at children high entries

inner : (ok : ℕ → ℕ → Bool) (s : Shelf) (height least at low : ℕ) (high : Option ℕ) (children entries : List Entry) → NodeAt s at false children → TreeAt ok s height least at low high entries
    → (below : ℕ) × IsInner ok s below at low high children entries
inner ok s zero least at low high children entries node tree = absurd (no_leaf s at entries children tree.0 node)
inner ok s (suc height) least at low high children entries node tree =
    let same : tree.0 ≡ children = (one_at s at false false tree.0 children tree.1 node).1 in (
      height,
      record {
        lie = subst (λ (l : List Entry). list_all (lies_in low high) l ≡ true) same tree.4;
        fan = subst (λ (l : List Entry). Fan (TreeAt ok s height 126) at l high entries) same tree.5;
      },
    )

leads_on : (ok : ℕ → ℕ → Bool) (s : Shelf) (height at child depth : ℕ) (second : Option Place) (with up : Bool) (q : ℕ) (entries : List Entry) (sibling : Option ℕ) (l : Leads ok s at second with up q entries)
    → Step (TreeAt ok s height 126) with up q l.sub child sibling → Leads ok s child (next_place sibling depth second) with up q entries
leads_on ok s height at child depth second with up q entries None l step = record {
  height = height;
  least = 126;
  low = step.low;
  high = step.high;
  sub = step.first;
  stands = step.stands;
  value = l.value ∙ step.value;
  rest = l.rest;
  near = l.near ∙ ap (λ (o : Option Entry). option_or o (first_of up l.rest)) step.near;
  remains = l.remains;
}
leads_on ok s height at child depth second with up q entries (Some sibling) l step =
    let others = step.near.2 in
    let found = first_found up others (tree_some ok s height 126 sibling step.near.0 step.near.1 others step.near.3) (tree_fit ok s height 126 sibling step.near.0 step.near.1 others step.near.3) in
    record {
      height = height;
      least = 126;
      low = step.low;
      high = step.high;
      sub = step.first;
      stands = step.stands;
      value = l.value ∙ step.value;
      rest = others;
      near = l.near ∙ ap (λ (o : Option Entry). option_or o (first_of up l.rest)) step.near.4
          ∙ or_assoc (nearest with up step.first q) (first_of up others) (first_of up l.rest)
          ∙ ap (option_or (nearest with up step.first q)) (or_found (first_of up others) (first_of up l.rest) found);
      remains = (height, step.near.0, step.near.1, step.near.3);
    }

pub walk_goes_on : (tells : Bool) (s : Shelf) (from here : Place) (second : Option Place) (with up : Bool) (q : ℕ) (page : Page) (children : List Entry) (child : ℕ) (sibling : Option ℕ)
    → IsWalk tells s from here second with up q → here.depth < 9 → IsNode page false children → (IsTrue tells → is_stored s 2 here.at page) → IsChoice up q children child sibling
    → (child < here.at) × IfSome sibling (λ (other : ℕ). other < here.at) → IsWalk tells s from (record { at = child; depth = here.depth + 1 }) (next_place sibling (here.depth + 1) second) with up q
walk_goes_on tells s from here second with up q page children child sibling w few node stored ch low =
    let there : IsTrue tells → NodeAt s here.at false children = λ told. (page, stored told, node) in
    record {
      within = record { shallow = omega (arith, few); under = omega (arith, w.within.under, low.0) };
      links = suc w.links;
      deep = omega (arith, w.deep);
      way_beside = λ told.
          subst (λ (last : Option ℕ). WayBeside s up q (suc w.links) from.at None child last) (block_of_next sibling (here.depth + 1) second)
          (way_beside_more s up q w.links from.at None here.at (block_of second) children child sibling (w.way_beside told) (there told) ch low.0 low.1);
      beyond = beyond_more from here second sibling w.within few low.1 w.beyond;
      last = λ told.
          last_more s up q from here second w.links children child sibling few w.deep (way_only s up q w.links from.at None here.at (block_of second) (w.way_beside told)) (there told) ch low.0 low.1 (w.last told);
      leads = λ told ok height least low high entries tree.
          let l = w.leads told ok height least low high entries tree in
          let in_it = inner ok s l.height l.least here.at l.low l.high children l.sub (there told) l.stands in
          leads_on ok s in_it.0 here.at child (here.depth + 1) second with up q entries sibling l
          (step_down (TreeAt ok s in_it.0 126) (sound ok s in_it.0) here.at l.low q l.high with up children l.sub child sibling ch node.rise in_it.1.lie in_it.1.fan);
    }

-- ---- the ends

leaf_of : (ok : ℕ → ℕ → Bool) (s : Shelf) (height least at low : ℕ) (high : Option ℕ) (leaf entries : List Entry) → NodeAt s at true leaf → TreeAt ok s height least at low high entries → entries ≡ leaf
leaf_of ok s zero least at low high leaf entries node tree = (one_at s at true true entries leaf tree.0 node).1
leaf_of ok s (suc height) least at low high leaf entries node tree = absurd (no_leaf s at leaf tree.0 node tree.1)

pub ends_in_leaf : (tells : Bool) (s : Shelf) (from here : Place) (second : Option Place) (with up : Bool) (q : ℕ) (page : Page) (leaf : List Entry) (entry : Option Entry)
    → IsWalk tells s from here second with up q → IsNode page true leaf → (IsTrue tells → is_stored s 2 here.at page) → entry ≡ nearest with up leaf q
    → IsTrue tells → (ok : ℕ → ℕ → Bool) (height least low : ℕ) (high : Option ℕ) (entries : List Entry) → TreeAt ok s height least from.at low high entries → Finds ok s with up q entries entry second
ends_in_leaf tells s from here second with up q page leaf entry w node stored is told ok height least low high entries tree =
    let l = w.leads told ok height least low high entries tree in
    let same : l.sub ≡ leaf = leaf_of ok s l.height l.least here.at l.low l.high leaf l.sub (page, stored told, node) l.stands in
    record {
      leaf = leaf;
      rise = node.rise;
      here = is;
      value = l.value ∙ ap (λ (es : List Entry). value_of es q) same;
      rest = l.rest;
      near = l.near ∙ ap (λ (o : Option Entry). option_or o (first_of up l.rest)) (ap (λ (es : List Entry). nearest with up es q) same ∙ sym is);
      remains = l.remains;
    }

nearest_nothing : (with up : Bool) (q : ℕ) → None ≡ nearest with up [] q
nearest_nothing with true q = refl
nearest_nothing with false q = refl

pub ends_before : (tells : Bool) (s : Shelf) (from here : Place) (second : Option Place) (with up : Bool) (q : ℕ) (page : Page) (children : List Entry)
    → IsWalk tells s from here second with up q → IsNode page false children → (IsTrue tells → is_stored s 2 here.at page) → up ≡ false → list_all (λ (e : Entry). nat_lt q e.0) children ≡ true
    → IsTrue tells → (ok : ℕ → ℕ → Bool) (height least low : ℕ) (high : Option ℕ) (entries : List Entry) → TreeAt ok s height least from.at low high entries → Finds ok s with up q entries None second
ends_before tells s from here second with up q page children w node stored down above told ok height least low high entries tree =
    let l = w.leads told ok height least low high entries tree in
    let in_it = inner ok s l.height l.least here.at l.low l.high children l.sub (page, stored told, node) l.stands in
    let none = nowhere (TreeAt ok s in_it.0 126) (sound ok s in_it.0) here.at l.low q l.high with children l.sub in_it.1.lie above in_it.1.fan in
    record {
      leaf = [];
      rise = refl;
      here = nearest_nothing with up q;
      value = l.value ∙ none.0;
      rest = l.rest;
      near = l.near ∙ ap (λ (o : Option Entry). option_or o (first_of up l.rest)) (ap (λ (b : Bool). nearest with b l.sub q) down ∙ none.1);
      remains = l.remains;
    }

pub reaches : (tells : Bool) (s : Shelf) (from here : Place) (second : Option Place) (with up : Bool) (q : ℕ) (entry : Option Entry) → IsWalk tells s from here second with up q → EndsAt s with up q here.at entry
    → IsTrue tells → ReachesBeside s with up q from.at entry (block_of second)
reaches tells s from here second with up q entry w end told =
    record { links = w.links; few = omega (arith, w.deep, w.within.shallow); block = here.at; way = w.way_beside told; end = end }

nearest_of : (s : Shelf) (with up : Bool) (q : ℕ) (from here : Place) (second : Option Place) (entry : Option Entry) → EndsAt s with up q here.at entry → IfSome second (λ (place : Place). IsLast s up q from here place)
    → IfSome second (λ (place : Place). IsNearest s with up q from place entry)
nearest_of s with up q from here None entry end l = l
nearest_of s with up q from here (Some place) entry end l = record { depth = l.depth; deeper = l.deeper; block = here.at; beside = l.beside; end = end }

pub has_nearest : (tells : Bool) (s : Shelf) (from here : Place) (second : Option Place) (with up : Bool) (q : ℕ) (entry : Option Entry) → IsWalk tells s from here second with up q → EndsAt s with up q here.at entry
    → IsTrue tells → IfSome second (λ (place : Place). IsNearest s with up q from place entry)
has_nearest tells s from here second with up q entry w end told = nearest_of s with up q from here second entry end (w.last told)

-- from the edge a walk finds an entry in any node
pub leaf_has : (with up : Bool) (q : ℕ) (page : Page) (leaf : List Entry) (entry : Option Entry) → IsNode page true leaf → entry ≡ nearest with up leaf q → with ≡ true → q ≡ edge up → is_some entry ≡ true
leaf_has with up q page leaf entry node is all at_edge =
    let found = first_found up leaf node.some node.fit in
    let same : entry ≡ first_of up leaf = is ∙ ap (λ (b : Bool). nearest b up leaf q) all ∙ ap (λ (n : ℕ). nearest true up leaf n) at_edge in
    ap (λ (o : Option Entry). is_some o) (same ∙ found.1)

pub not_before : (up : Bool) (q : ℕ) (page : Page) (children : List Entry) → IsNode page false children → up ≡ false → list_all (λ (e : Entry). nat_lt q e.0) children ≡ true → q ≡ edge up → ⊥
not_before up q page children node down above at_edge = none children node.some node.fit above
  where
    none : (es : List Entry) → 1 ≤ length es → list_all fits es ≡ true → list_all (λ (e : Entry). nat_lt q e.0) es ≡ true → ⊥
    none [] some fit high = omega arith
    none (e ∷ es) some fit high =
        let small : e.0 < 2 ^ 64 = ltb-true e.0 (2 ^ 64) (and_parts _ _ (and_parts (fits e) (list_all fits es) fit).0).0 in
        let more : q < e.0 = ltb-true q e.0 (and_parts (nat_lt q e.0) (list_all (λ (e : Entry). nat_lt q e.0) es) high).0 in
        let last : q ≡ 2 ^ 64 - 1 = at_edge ∙ ap edge down in
        omega arith

-- ---- the reasons

pub breaks_as_no_node : (tells : Bool) (s : Shelf) (from here : Place) (second : Option Place) (with up : Bool) (q first before after : ℕ) (why : Refusal) → IsWalk tells s from here second with up q → before ≡ first
    → NodeFails tells s here.at before after why → Reason tells s.file (BreaksOnWay s up q from.depth from.at) first after why
breaks_as_no_node tells s from here second with up q first before after why w same (inl disk) = inl (disk.0, omega (arith, disk.1))
breaks_as_no_node tells s from here second with up q first before after why w same (inr damaged) = inr (
  here.at,
  damaged.0,
  λ told.
      record {
        links = w.links;
        way = way_only s up q w.links from.at None here.at (block_of second) (w.way_beside told);
        shallow = omega (arith, w.deep, w.within.shallow);
        broken = inl (inl (damaged.1 told));
      },
)

pub breaks_as_inner : (tells : Bool) (s : Shelf) (from here : Place) (second : Option Place) (with up : Bool) (q file before after : ℕ) (why : Refusal) (page : Page) (children : List Entry) → IsWalk tells s from here second with up q
    → IsNode page false children → (IsTrue tells → is_stored s 2 here.at page) → why ≡ Refusal.Damaged file here.at
    → (9 ≤ here.depth) ⊎ ((child : ℕ) × (sibling : Option ℕ) × IsChoice up q children child sibling × IsHigh here.at child sibling) → Reason tells file (BreaksOnWay s up q from.depth from.at) before after why
breaks_as_inner tells s from here second with up q file before after why page children w node stored is how = inr (
  here.at,
  is,
  λ told.
      record {
        links = w.links;
        way = way_only s up q w.links from.at None here.at (block_of second) (w.way_beside told);
        shallow = omega (arith, w.deep, w.within.shallow);
        broken = elim how [
          | inl deep ↦ inr (omega (arith, deep, w.deep), children, (page, stored told, node))
          | inr high ↦ inl (inr (children, (page, stored told, node), high.0, high.1, high.2, high.3))
        ];
      },
)

pub names_it : (file at : ℕ) (why : Refusal) → why ≡ Refusal.Damaged file at → NamesUnder file at why
names_it file at why is other block is' =
    let both : Refusal.Damaged other block ≡ Refusal.Damaged file at = sym is' ∙ is in
    let same_file : other ≡ file = cc in
    let same : block ≡ at = cc in
    (same_file, omega (arith, same))

pub names_higher : (file at higher : ℕ) (why : Refusal) → at ≤ higher → NamesUnder file at why → NamesUnder file higher why
names_higher file at higher why less names other block is =
    let named = names other block is in
    (named.0, omega (arith, less, named.1))

pub names_node : (tells : Bool) (s : Shelf) (at before after : ℕ) (why : Refusal) → NodeFails tells s at before after why → NamesUnder s.file at why
names_node tells s at before after why (inl disk) other block is =
    let fault : why ≡ Refusal.DiskFault = disk.0 in
    absurd cc
names_node tells s at before after why (inr damaged) other block is = names_it s.file at why damaged.0 other block is
