-- Why a change is refused.
use Rattle.std.proofs.Common.{◌≡◌, ◌⊎◌, inl, inr, ℕ, zero, suc, ◌+◌, ◌<◌, ◌≤◌, ◌-◌, Bool, true, false, List, length, refl, sym, ap, ◌∙◌, subst, arith}
use Rattle.std.specs.Prelude.{Option, Some, IsTrue, Result, Ok, Err, IfErr}
use Rattle.forest_model.specs.declared.refusal.Refusal.{Refusal}
use Rattle.node_page.specs.Nodes.{Entry}
use Rattle.btree_cow.specs.Shelf.{Shelf, Later}
use Rattle.btree_cow.specs.Trees.{NodeAt, Tree}
use Rattle.btree_cow.specs.Causes.{IsNoNode, IsTooDeep, is_full}
use Rattle.btree_cow.specs.Barred.{NamesBelow, NodeFails}
use Rattle.btree_cow.specs.Growing.{Appends, AppendFails, IsChild, IsRead}
use Rattle.btree_cow.specs.Shrinking.{IsNeighbour}
use Rattle.btree_cow.specs.Takes.{Taken, TakesAlong}
use Rattle.btree_cow.specs.Refused.{BreaksDown, BreaksJoin, BreaksPair, BreaksPut, BreaksShort, BreaksTake, BreaksTaking, ChangeFails, DownFails, IsBesideChild, IsNoPartner, LeadsUp, WayDown}
use Rattle.btree_cow.specs.declared.overfull.Node.{Node}
use Rattle.btree_cow.specs.declared.shrunk.Shrunk.{Shrunk}
use Rattle.btree_cow.specs.declared.shrunk.Shrunk.TheVariants.{Short}
use Rattle.btree_cow.proofs.Additions.{chosen_among}
use Rattle.btree_cow.proofs.Bars.{way_then}
use Rattle.btree_cow.proofs.Breaks.{BreaksTree, HasHighChild, Way, never_breaks}
use Rattle.btree_cow.proofs.Copies.{told_node}
use Rattle.btree_cow.proofs.Growth.{node_later}
use Rattle.btree_cow.proofs.Pairs.{neighbour_among}

-- ---- the first block of a way

pub none_here : (s : Shelf) (left q at : ℕ) → IsNoNode s at → BreaksDown s left q at at
none_here s left q at none = record { links = 0; way = refl; few = omega arith; broken = inl none }

pub nowhere_on : (s : Shelf) (left q at : ℕ) (children : List Entry) → NodeAt s at false children → (left ≡ 0) ⊎ ((place : ℕ) × (child : ℕ) × IsChild children q place child × (at ≤ child)) → BreaksDown s left q at at
nowhere_on s left q at children node (inl deep) = record { links = 0; way = refl; few = omega arith; broken = inr (inr (omega (arith, deep), children, node)) }
nowhere_on s left q at children node (inr high) = record { links = 0; way = refl; few = omega arith; broken = inr (inl (children, node, high.0, high.1, high.2, high.3)) }

-- ---- one link more

deeper : (s : Shelf) (left rest q links block : ℕ) → 0 < left → rest ≡ left - 1 → IsNoNode s block ⊎ LeadsUp s q block ⊎ ((rest ≤ links) × (children : List Entry) × NodeAt s block false children)
    → IsNoNode s block ⊎ LeadsUp s q block ⊎ ((left ≤ suc links) × (children : List Entry) × NodeAt s block false children)
deeper s left rest q links block some less (inl none) = inl none
deeper s left rest q links block some less (inr (inl up)) = inr (inl up)
deeper s left rest q links block some less (inr (inr deep)) = inr (inr (omega (arith, deep.0, less, some), deep.1, deep.2))

pub down_more : (s : Shelf) (left rest q at place child block : ℕ) (children : List Entry) → 0 < left → rest ≡ left - 1 → NodeAt s at false children → IsChild children q place child → child < at → BreaksDown s rest q child block
    → BreaksDown s left q at block
down_more s left rest q at place child block children some less node c low b =
    record { links = suc b.links; way = (children, node, place, child, c, low, b.way); few = omega (arith, b.few, less, some); broken = deeper s left rest q b.links block some less b.broken }

join_more : (s : Shelf) (left rest q at place child block : ℕ) (children : List Entry) → 0 < left → rest ≡ left - 1 → NodeAt s at false children → IsChild children q place child → child < at → BreaksJoin s rest q child block
    → BreaksJoin s left q at block
join_more s left rest q at place child block children some less node c low b =
    let j = b.2 in (
      b.0,
      b.1,
      record {
        links = suc j.links;
        way = (children, node, place, child, c, low, j.way);
        few = omega (arith, j.few, less, some);
        children = j.children;
        node = j.node;
        place = j.place;
        child = j.child;
        takes = j.takes;
        below = j.below;
        short = j.short;
        beside = j.beside;
      },
      b.3,
    )

pub taking_more : (s : Shelf) (left rest q at place child block : ℕ) (children : List Entry) → 0 < left → rest ≡ left - 1 → NodeAt s at false children → IsChild children q place child → child < at → BreaksTaking s rest q child block
    → BreaksTaking s left q at block
taking_more s left rest q at place child block children some less node c low (inl down) = inl (down_more s left rest q at place child block children some less node c low down)
taking_more s left rest q at place child block children some less node c low (inr join) = inr (join_more s left rest q at place child block children some less node c low join)

-- ---- the reasons

pub read_fails : (tells : Bool) (Breaks : ℕ → Type 0) (at : ℕ) (old new : Shelf) (before after : ℕ) (why : Refusal) → (IsNoNode old at → Breaks at) → NodeFails tells old at before after why → DownFails tells Breaks at old new before after why
read_fails tells Breaks at old new before after why so (inl disk) = inl (inl disk)
read_fails tells Breaks at old new before after why so (inr damaged) = inr (at, damaged.0, omega arith, λ told. so (damaged.1 told))

pub nowhere_fails : (tells : Bool) (Breaks : ℕ → Type 0) (left at chunk file before after : ℕ) (old mid : Shelf) (leaf : Bool) (content children : List Entry) → (BreaksDown old left chunk at at → Breaks at) → mid ≡ old → file ≡ mid.file → leaf ≡ false
    → IsRead tells old at leaf content → children ≡ content → (left ≡ 0) ⊎ ((place : ℕ) × (child : ℕ) × IsChild children chunk place child × (at ≤ child)) → DownFails tells Breaks at old mid before after (Refusal.Damaged file at)
nowhere_fails tells Breaks left at chunk file before after old mid leaf content children so kept is inner read same why = inr (
  at,
  ap (λ (f : ℕ). Refusal.Damaged f at) (is ∙ ap (λ (s : Shelf). s.file) kept),
  omega arith,
  λ told.
      so (nowhere_on old left chunk at content (told_node tells old at leaf false content told inner read)
      (subst (λ (l : List Entry). (left ≡ 0) ⊎ ((place : ℕ) × (child : ℕ) × IsChild l chunk place child × (at ≤ child))) same why)),
)

pub fails_so : (tells : Bool) (P Q : ℕ → Type 0) (at higher : ℕ) (old new : Shelf) (before after : ℕ) (why : Refusal) → at ≤ higher → (IsTrue tells → (block : ℕ) → P block → Q block) → DownFails tells P at old new before after why
    → DownFails tells Q higher old new before after why
fails_so tells P Q at higher old new before after why less so (inl fails) = inl fails
fails_so tells P Q at higher old new before after why less so (inr damaged) = inr (damaged.0, damaged.1, omega (arith, damaged.2, less), λ told. so told damaged.0 (damaged.3 told))

-- of what is below a child, by the way on from it
pub below_fails : (tells : Bool) (Breaks : Shelf → ℕ → ℕ → ℕ → ℕ → Type 0) (left rest at chunk place child x y z : ℕ) (old mid new : Shelf) (leaf : Bool) (content children : List Entry) (why : Refusal)
    → ((block : ℕ) → NodeAt old at false content → IsChild content chunk place child → Breaks old rest chunk child block → Breaks old left chunk at block)
    → mid ≡ old → y ≡ x → child < at → leaf ≡ false → IsRead tells old at leaf content → children ≡ content → IsChild children chunk place child
    → DownFails tells (Breaks mid rest chunk child) child mid new y z why → DownFails tells (Breaks old left chunk at) at old new x z why
below_fails tells Breaks left rest at chunk place child x y z old mid new leaf content children why so kept same_count low inner read same c fails =
    let here : DownFails tells (Breaks old rest chunk child) child old new x z why =
    subst (λ (n : ℕ). DownFails tells (Breaks old rest chunk child) child old new n z why) same_count (subst (λ (m : Shelf). DownFails tells (Breaks m rest chunk child) child m new y z why) kept fails) in
    fails_so tells (Breaks old rest chunk child) (Breaks old left chunk at) child at old new x z why (omega (arith, low))
    (λ told block. so block (told_node tells old at leaf false content told inner read) (subst (λ (l : List Entry). IsChild l chunk place child) same c)) here

-- ---- a neighbour

pub neighbour_fails : (tells : Bool) (old new : Shelf) (before after : ℕ) (children read : List Entry) (up place at : ℕ) (in_front : Bool) (why : Refusal) → read ≡ children → IsNeighbour read place in_front at
    → (in_front ≡ true → length read ≤ place + 1) → at < up → NodeFails tells old at before after why → DownFails tells (BreaksPair children place up old) up old new before after why
neighbour_fails tells old new before after children read up place at in_front why same is last low (inl disk) = inl (inl disk)
neighbour_fails tells old new before after children read up place at in_front why same is last low (inr damaged) =
    let beside : IsBesideChild children place at = subst (λ (l : List Entry). IsBesideChild l place at) same (record { in_front = in_front; beside = is; last = last }) in
    inr (at, damaged.0, omega (arith, low), λ told. (at, beside, inl (refl, low, damaged.1 told)))

pub high_fails : (tells : Bool) (old new : Shelf) (before after : ℕ) (children read : List Entry) (up place at file : ℕ) (in_front : Bool) → read ≡ children → IsNeighbour read place in_front at → (in_front ≡ true → length read ≤ place + 1)
    → file ≡ old.file → up ≤ at → DownFails tells (BreaksPair children place up old) up old new before after (Refusal.Damaged file up)
high_fails tells old new before after children read up place at file in_front same is last here above =
    let beside : IsBesideChild children place at = subst (λ (l : List Entry). IsBesideChild l place at) same (record { in_front = in_front; beside = is; last = last }) in
    inr (up, ap (λ (f : ℕ). Refusal.Damaged f up) here, omega arith, λ told. (at, beside, inr (refl, above)))

pub short_fails : (tells : Bool) (shrunk : Shrunk) (short : Node) (children : List Entry) (place at : ℕ) (old new : Shelf) (before after : ℕ) (why : Refusal) → shrunk ≡ Short short → DownFails tells (BreaksPair children place at old) at old new before after why
    → DownFails tells (BreaksShort shrunk children place at old) at old new before after why
short_fails tells shrunk short children place at old new before after why is fails =
    fails_so tells (BreaksPair children place at old) (BreaksShort shrunk children place at old) at at old new before after why (omega arith) (λ told block pair. (short, is, pair)) fails

no_node_before : (old new : Shelf) (at : ℕ) → Later old new → IsNoNode new at → IsNoNode old at
no_node_before old new at later none leaf entries node = none leaf entries (node_later old new at leaf entries later node)

partner_before : (old mid : Shelf) (parent neighbour block : ℕ) → Later old mid → IsNoPartner mid parent neighbour block → IsNoPartner old parent neighbour block
partner_before old mid parent neighbour block later (inl none) = inl (none.0, none.1, no_node_before old mid neighbour later none.2)
partner_before old mid parent neighbour block later (inr high) = inr high

short_bars : (old mid : Shelf) (left rest at chunk place child block : ℕ) (content : List Entry) (shrunk : Shrunk) → 0 < left → Later old mid → NodeAt old at false content → IsChild content chunk place child → child < at
    → Taken rest child chunk old mid shrunk → BreaksShort shrunk content place at mid block → BreaksTaking old left chunk at block
short_bars old mid left rest at chunk place child block content shrunk some later node c low t b = inr (
  at,
  b.2.0,
  record {
    links = 0;
    way = refl;
    few = some;
    children = content;
    node = node;
    place = place;
    child = child;
    takes = c;
    below = low;
    short = record { after = mid; later = later; links = t.links; node = b.0; count = t.nodes; along = subst (λ (x : Shrunk). TakesAlong old mid t.links child chunk x t.nodes) b.1 t.along };
    beside = b.2.1;
  },
  partner_before old mid at b.2.0 block later b.2.2,
)

pub refill_failed : (tells : Bool) (left rest at chunk place child x y z w : ℕ) (old mid mid' new : Shelf) (r : Result Shrunk Refusal) (leaf : Bool) (content children : List Entry) (shrunk : Shrunk) → 0 < left → child < at → mid ≡ old → y ≡ x → z ≡ y
    → leaf ≡ false → IsRead tells old at leaf content → children ≡ content → IsChild children chunk place child → (IsTrue tells → Taken rest child chunk mid mid' shrunk) → Appends tells mid mid' y z
    → IfErr r (DownFails tells (BreaksShort shrunk content place at mid') at mid' new z w) → IfErr r (DownFails tells (BreaksTaking old left chunk at) at old new x w)
refill_failed tells left rest at chunk place child x y z w old mid mid' new (Ok a) leaf content children shrunk some low kept same same' inner read got c taken appends fails = fails
refill_failed tells left rest at chunk place child x y z w old mid mid' new (Err why) leaf content children shrunk some low kept same same' inner read got c taken appends (inl fails) =
    inl (subst (λ (n : ℕ). AppendFails new n w why) (same' ∙ same) fails)
refill_failed tells left rest at chunk place child x y z w old mid mid' new (Err why) leaf content children shrunk some low kept same same' inner read got c taken appends (inr damaged) = inr (
  damaged.0,
  damaged.1 ∙ ap (λ (f : ℕ). Refusal.Damaged f damaged.0) (appends.limits.file ∙ ap (λ (s : Shelf). s.file) kept),
  damaged.2,
  λ told.
      short_bars old mid' left rest at chunk place child damaged.0 content shrunk some (subst (λ (m : Shelf). Later m mid') kept (appends.later told)) (told_node tells old at leaf false content told inner read)
      (subst (λ (l : List Entry). IsChild l chunk place child) got c) low (subst (λ (m : Shelf). Taken rest child chunk m mid' shrunk) kept (taken told)) (damaged.3 told),
)

-- ---- the root

pub root_fails : (tells : Bool) (P Q : ℕ → Type 0) (at : ℕ) (old new : Shelf) (before after : ℕ) (why : Refusal) → ((block : ℕ) → P block → Q block) → DownFails tells P at old new before after why → ChangeFails tells Q old new before after why
root_fails tells P Q at old new before after why so (inl (inl disk)) = inl disk
root_fails tells P Q at old new before after why so (inl (inr full)) = inr (inl full)
root_fails tells P Q at old new before after why so (inr damaged) = inr (inr (damaged.0, damaged.1, λ told. so damaged.0 (damaged.3 told)))

pub append_names : (new : Shelf) (before after file : ℕ) (root : Option ℕ) (why : Refusal) → AppendFails new before after why → NamesBelow file root why
append_names new before after file root why (inl disk) other block is =
    let fault : why ≡ Refusal.DiskFault = disk.0 in
    absurd cc
append_names new before after file root why (inr full) other block is =
    let room : why ≡ Refusal.FileFull new.used 1 new.max = full.0 in
    absurd cc

pub appends_name : {A : Type 0} (r : Result A Refusal) (new : Shelf) (before after file : ℕ) (root : Option ℕ) → IfErr r (AppendFails new before after) → IfErr r (NamesBelow file root)
appends_name (Ok a) new before after file root fails = fails
appends_name (Err why) new before after file root fails = append_names new before after file root why fails

pub root_names : (tells : Bool) (P : ℕ → Type 0) (root : Option ℕ) (at : ℕ) (old new : Shelf) (before after : ℕ) (why : Refusal) → root ≡ Some at → DownFails tells P at old new before after why → NamesBelow old.file root why
root_names tells P root at old new before after why is (inl fails) other block is' = append_names new before after old.file root why fails other block is'
root_names tells P root at old new before after why is (inr damaged) other block is' =
    let both : Refusal.Damaged other block ≡ Refusal.Damaged old.file damaged.0 = sym is' ∙ damaged.1 in
    let same_file : other ≡ old.file = cc in
    let same : block ≡ damaged.0 = cc in
    (at, is, same_file, omega (arith, same, damaged.2))

way_of : (s : Shelf) (q links at block : ℕ) → WayDown s q links at block → Way s links at block
way_of s q zero at block way = way
way_of s q (suc links) at block way =
    (way.0, way.4.cut.chosen, way.1, chosen_among way.0 q way.2 way.3 way.4, subst (λ (n : ℕ). Way s links n block) (sym way.4.leads) (way_of s q links way.3 block way.6))

up_high : (s : Shelf) (q at : ℕ) → LeadsUp s q at → HasHighChild s at
up_high s q at up =
    let leads : up.4.cut.chosen.1 ≡ up.3 = up.4.leads in
    (up.0, up.4.cut.chosen, up.1, chosen_among up.0 q up.2 up.3 up.4, omega (arith, up.5, leads))

broken_of : (s : Shelf) (q links block : ℕ) → IsNoNode s block ⊎ LeadsUp s q block ⊎ ((9 ≤ links) × (children : List Entry) × NodeAt s block false children) → IsNoNode s block ⊎ HasHighChild s block ⊎ IsTooDeep s links block
broken_of s q links block (inl none) = inl none
broken_of s q links block (inr (inl up)) = inr (inl (up_high s q block up))
broken_of s q links block (inr (inr deep)) = inr (inr deep)

pub down_tree : (s : Shelf) (q at block : ℕ) → BreaksDown s 9 q at block → BreaksTree s at block
down_tree s q at block b = record { depth = b.links; reached = way_of s q b.links at block b.way; shallow = b.few; broken = broken_of s q b.links block b.broken }

join_tree : (s : Shelf) (q at block : ℕ) → BreaksJoin s 9 q at block → BreaksTree s at block
join_tree s q at block (parent, neighbour, j, inl none) =
    let found = neighbour_among j.children j.place j.beside.in_front neighbour j.beside.beside in
    record {
      depth = suc j.links;
      reached = way_then s j.links 1 (suc j.links) at parent block (omega arith) (way_of s q j.links at parent j.way) (j.children, found.0, j.node, found.1, found.2 ∙ sym none.0);
      shallow = omega (arith, j.few);
      broken = inl (subst (λ (n : ℕ). IsNoNode s n) (sym none.0) none.2);
    }
join_tree s q at block (parent, neighbour, j, inr high) =
    let found = neighbour_among j.children j.place j.beside.in_front neighbour j.beside.beside in
    subst (λ (n : ℕ). BreaksTree s at n) (sym high.0)
    (record { depth = j.links; reached = way_of s q j.links at parent j.way; shallow = omega (arith, j.few); broken = inr (inl (j.children, found.0, j.node, found.1, omega (arith, high.1, found.2))) })

pub taking_tree : (s : Shelf) (q at block : ℕ) → BreaksTaking s 9 q at block → BreaksTree s at block
taking_tree s q at block (inl down) = down_tree s q at block down
taking_tree s q at block (inr join) = join_tree s q at block join

pub root_stands : (tells : Bool) (P : ℕ → Type 0) (ok : ℕ → ℕ → Bool) (root : Option ℕ) (at : ℕ) (old new : Shelf) (before after : ℕ) (why : Refusal) (entries : List Entry) → ((block : ℕ) → P block → BreaksTree old at block) → IsTrue tells → root ≡ Some at
    → Tree ok old root entries → DownFails tells P at old new before after why → (why ≡ Refusal.DiskFault) ⊎ (why ≡ is_full new)
root_stands tells P ok root at old new before after why entries so told is tree (inl (inl disk)) = inl disk.0
root_stands tells P ok root at old new before after why entries so told is tree (inl (inr full)) = inr full.0
root_stands tells P ok root at old new before after why entries so told is tree (inr damaged) =
    let here : Tree ok old (Some at) entries = subst (λ (o : Option ℕ). Tree ok old o entries) is tree in
    absurd (never_breaks ok old here.0 1 at damaged.0 entries here.1 (so damaged.0 (damaged.3 told)))

-- ---- a change, and the first of a run that isn't made

pub put_bars : (s : Shelf) (root : Option ℕ) (q at block : ℕ) → root ≡ Some at → BreaksDown s 9 q at block → BreaksPut s root q block
put_bars s root q at block is b = (at, is, b)

pub take_bars : (s : Shelf) (root : Option ℕ) (q at block : ℕ) → root ≡ Some at → BreaksTaking s 9 q at block → BreaksTake s root q block
take_bars s root q at block is b = (at, is, b)
