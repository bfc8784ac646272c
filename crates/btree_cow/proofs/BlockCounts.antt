-- How many blocks a change adds, whatever it answers.
use Rattle.std.proofs.Common.{◌≡◌, inl, inr, ℕ, zero, suc, ◌<◌, ◌≤◌, ◌-◌, ◌+◌, ◌*◌, Bool, false, List, refl, sym, ap, ◌∙◌, subst, arith}
use Rattle.std.specs.Prelude.{Option, Some, None, IsTrue, Result, Ok, Err, IfOk, IfErr, OnErr}
use Rattle.std.proofs.lemmas.Option.{same_Some}
use Rattle.forest_model.specs.declared.refusal.Refusal.{Refusal}
use Rattle.node_page.specs.Nodes.{Entry}
use Rattle.btree_cow.specs.Shelf.{Shelf, Adds, Counted}
use Rattle.btree_cow.specs.Trees.{Fan, NodeAt, TreeAt}
use Rattle.btree_cow.specs.Causes.{AddFails}
use Rattle.btree_cow.specs.Growing.{Appends, AppendFails, GoesDown, IsChild, IsRead}
use Rattle.btree_cow.specs.Takes.{stored_count}
use Rattle.btree_cow.specs.declared.shrunk.Shrunk.{Shrunk}
use Rattle.btree_cow.specs.declared.shrunk.Shrunk.TheVariants.{Absent, Stored, Short}
use Rattle.node_page.specs.declared.page.Page.{Page}
use Rattle.btree_cow.proofs.Additions.{chosen_among}
use Rattle.btree_cow.proofs.Breaks.{fan_child, no_leaf, one_at}
use Rattle.btree_cow.proofs.Copies.{told_node}
use Rattle.btree_cow.proofs.Growth.{later_same}

-- ---- one addition

pub added_so : (tells : Bool) (r : Result ℕ Refusal) (page : Page) (old new : Shelf) (x y : ℕ) → (IsTrue tells → IfOk r (λ (at : ℕ). Adds 2 page at old new)) → IfOk r (λ (at : ℕ). Counted at old new) → IfErr r (AddFails old new x y) → x ≤ y
    → Appends tells old new x y
added_so tells (Ok at) page old new x y adds counted fails less = record {
  later = λ told. (adds told).later;
  limits = record { lender = counted.lender; file = counted.file; used = omega (arith, counted.one_more); most = counted.most; max = counted.max };
  counts = less;
}
added_so tells (Err why) page old new x y adds counted fails less =
    subst (λ (s : Shelf). Appends tells old s x y) (sym fails.1)
    (record { later = λ told. later_same old; limits = record { lender = refl; file = refl; used = omega arith; most = refl; max = refl }; counts = less })

pub add_fails : (r : Result ℕ Refusal) (old new : Shelf) (x y : ℕ) → IfErr r (AddFails old new x y) → IfErr r (AppendFails new x y)
add_fails (Ok at) old new x y fails = fails
add_fails (Err why) old new x y fails = subst (λ (s : Shelf). AppendFails s x y why) (sym fails.1) (elim fails.0 [ inl full ↦ inr full | inr disk ↦ inl disk ])

pub add_refused : (r : Result ℕ Refusal) (old new : Shelf) (x y : ℕ) → IfErr r (AddFails old new x y) → OnErr r (new ≡ old)
add_refused (Ok at) old new x y fails = fails
add_refused (Err why) old new x y fails = fails.1

pub add_few : (r : Result ℕ Refusal) (old new : Shelf) (x y : ℕ) → IfOk r (λ (at : ℕ). Counted at old new) → IfErr r (AddFails old new x y) → new.used ≤ old.used + 1
add_few (Ok at) old new x y counted fails = omega (arith, counted.one_more)
add_few (Err why) old new x y counted fails = let same : new.used ≡ old.used = ap (λ (s : Shelf). s.used) fails.1 in omega (arith, same)

-- an addition names no damaged block
pub never_damaged : {A : Type 0} (r : Result A Refusal) (new : Shelf) (x y file block : ℕ) → IfErr r (AppendFails new x y) → r ≡ Err (Refusal.Damaged file block) → ⊥
never_damaged (Ok a) new x y file block fails is = absurd cc
never_damaged (Err why) new x y file block (inl disk) is =
    let fault : why ≡ Refusal.DiskFault = disk.0 in
    absurd cc
never_damaged (Err why) new x y file block (inr full) is =
    let room : why ≡ Refusal.FileFull new.used 1 new.max = full.0 in
    absurd cc

-- a refusal that is handed on
pub handed_on : {A B : Type 0} (why other : Refusal) → ◌≡◌ {A = Result A Refusal} (Err why) (Err other) → ◌≡◌ {A = Result B Refusal} (Err why) (Err other)
handed_on why other is =
    let same : why ≡ other = cc in
    ap Err same

-- ---- behind a node that was read

pub after_read : (old mid new : Shelf) (n m : ℕ) → mid ≡ old → n ≤ m → new.used ≤ mid.used + n → new.used ≤ old.used + m
after_read old mid new n m kept less added = let same : mid.used ≡ old.used = ap (λ (s : Shelf). s.used) kept in omega (arith, same, less, added)

pub only_read : (old mid : Shelf) (m : ℕ) → mid ≡ old → mid.used ≤ old.used + m
only_read old mid m kept = let same : mid.used ≡ old.used = ap (λ (s : Shelf). s.used) kept in omega (arith, same)

-- a tree of a height in an inner node has one less high in the child that takes a chunk
child_tree : (ok : ℕ → ℕ → Bool) (s : Shelf) (height least at low : ℕ) (high : Option ℕ) (entries content : List Entry) (chunk place child : ℕ) → NodeAt s at false content → IsChild content chunk place child
    → TreeAt ok s height least at low high entries → (fewer : ℕ) × (height ≡ suc fewer) × (low' : ℕ) × (high' : Option ℕ) × (es : List Entry) × TreeAt ok s fewer 126 child low' high' es
child_tree ok s zero least at low high entries content chunk place child node c tree = absurd (no_leaf s at entries content tree.0 node)
child_tree ok s (suc height) least at low high entries content chunk place child node c tree =
    let same : tree.0 ≡ content = (one_at s at false false tree.0 content tree.1 node).1 in
    let fan : Fan (TreeAt ok s height 126) at content high entries = subst (λ (l : List Entry). Fan (TreeAt ok s height 126) at l high entries) same tree.5 in
    let among = chosen_among content chunk place child c in
    let below = fan_child (TreeAt ok s height 126) at high content entries among.0 c.cut.chosen among.1 fan in
    (height, refl, below.1, below.2, below.3, subst (λ (n : ℕ). TreeAt ok s height 126 n below.1 below.2 below.3) c.leads below.4)

child_down : (tells : Bool) (left rest at chunk place child links : ℕ) (s : Shelf) (content : List Entry) → 0 < left → rest ≡ left - 1 → (IsTrue tells → NodeAt s at false content) → IsChild content chunk place child → GoesDown tells left s at links
    → (fewer : ℕ) × (links ≡ suc fewer) × GoesDown tells rest s child fewer
child_down tells left rest at chunk place child links s content some less node c (inl all) = (rest, omega (arith, all, some, less), inl refl)
child_down tells left rest at chunk place child links s content some less node c (inr h) =
    let below = child_tree h.ok s links h.least at h.low h.high h.entries content chunk place child (node h.told) c h.tree in
    (below.0, below.1, inr (record { told = h.told; ok = h.ok; least = 126; low = below.2; high = below.3; entries = below.4; tree = below.5 }))

-- what was added below an inner node leaves room for two blocks more
pub inner_few : (tells : Bool) (left rest at chunk place child links room : ℕ) (old mid new : Shelf) (leaf : Bool) (content children : List Entry) → mid ≡ old → 0 < left → rest ≡ left - 1 → leaf ≡ false → IsRead tells old at leaf content
    → children ≡ content → IsChild children chunk place child → ((n : ℕ) → GoesDown tells rest mid child n → new.used ≤ mid.used + (2 * n + room)) → GoesDown tells left old at links
    → new.used + 2 ≤ old.used + (2 * links + room)
inner_few tells left rest at chunk place child links room old mid new leaf content children kept some less inner read same c few down =
    let d = child_down tells left rest at chunk place child links old content some less (λ told. told_node tells old at leaf false content told inner read) (subst (λ (l : List Entry). IsChild l chunk place child) same c) down in
    let below : new.used ≤ mid.used + (2 * d.0 + room) = few d.0 (subst (λ (s : Shelf). GoesDown tells rest s child d.0) (sym kept) d.2) in
    let used : mid.used ≡ old.used = ap (λ (s : Shelf). s.used) kept in
    omega (arith, below, used, d.1)

-- ---- the last step of a removal

pub one_stored : (shrunk : Shrunk) → stored_count shrunk ≤ 1
one_stored Absent = omega arith
one_stored (Stored block) = omega arith
one_stored (Short node) = omega arith

-- ---- from a root

pub root_down : (tells : Bool) (left at here height : ℕ) (root : Option ℕ) (s : Shelf) (ok : ℕ → ℕ → Bool) (entries : List Entry) → IsTrue tells → root ≡ Some here → root ≡ Some at → TreeAt ok s height 1 at 0 None entries → GoesDown tells left s here height
root_down tells left at here height root s ok entries told is is' tree =
    inr (record { told = told; ok = ok; least = 1; low = 0; high = None; entries = entries; tree = subst (λ (n : ℕ). TreeAt ok s height 1 n 0 None entries) (same_Some at here (sym is' ∙ is)) tree })
