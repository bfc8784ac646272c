-- No block breaks a tree that stands.
use Rattle.std.proofs.Common.{◌≡◌, ◌⊎◌, inl, inr, ℕ, zero, suc, ◌<◌, ◌≤◌, ◌+◌, Bool, true, false, List, [], ◌∷◌, sym, ap, ◌∙◌, subst, arith, true≢false}
use Rattle.std.specs.Prelude.{Option, Some, None, IsTrue, slice_get}
use Rattle.std.proofs.lemmas.Option.{none-some, same_Some}
use Rattle.forest_model.specs.declared.refusal.Refusal.{Refusal}
use Rattle.node_page.specs.Nodes.{Entry, IsNode}
use Rattle.node_page.specs.declared.page.Page.{Page}
use Rattle.btree_cow.specs.Shelf.{Shelf, Stored}
use Rattle.btree_cow.specs.Trees.{Fan, NodeAt, TreeAt, Tree, border}
use Rattle.btree_cow.specs.Causes.{IsAmong, IsNoNode, IsTooDeep, Reason}
use Rattle.btree_cow.proofs.OneNode.{one_node}
use Rattle.btree_cow.proofs.Depths.{most_high}

-- so many links lead down from a block to another, from inner nodes to their children
abbrev pub Way : Shelf → ℕ → ℕ → ℕ → Type 0
Way s zero at block = at ≡ block
Way s (suc more) at block = (children : List Entry) × (c : Entry) × NodeAt s at false children × IsAmong c children × Way s more c.1 block

-- a block is an inner node with a child that isn't below it
abbrev pub HasHighChild : Shelf → ℕ → Type 0
HasHighChild s at = (children : List Entry) × (c : Entry) × NodeAt s at false children × IsAmong c children × (at ≤ c.1)

-- A block on a way of at most nine links from the root, by which there is no tree.
pub record BreaksTree (s : Shelf) (root block : ℕ) : Type 0 where
  pub depth : ℕ
  pub reached : Way s depth root block
  pub shallow : depth ≤ 9
  pub broken : IsNoNode s block ⊎ HasHighChild s block ⊎ IsTooDeep s depth block

-- a root by whose tree a block breaks
abbrev pub BreaksFrom : Shelf → Option ℕ → ℕ → Type 0
BreaksFrom s root block = (at : ℕ) × (root ≡ Some at) × BreaksTree s at block

pub one_at : (s : Shelf) (at : ℕ) (leaf leaf' : Bool) (es fs : List Entry) → NodeAt s at leaf es → NodeAt s at leaf' fs → (leaf ≡ leaf') × (es ≡ fs)
one_at s at leaf leaf' es fs node node' =
    let stored : Some (record { kind = 2; page = node.0 }) ≡ Some (record { kind = 2; page = node'.0 }) = sym node.1 ∙ node'.1 in
    let same : node.0 ≡ node'.0 = ap (λ (st : Stored). st.page) (same_Some (record { kind = 2; page = node.0 }) (record { kind = 2; page = node'.0 }) stored) in
    one_node node'.0 leaf leaf' es fs (subst (λ (p : Page). IsNode p leaf es) same node.2) node'.2

-- a child of a fan
pub fan_child : (Below : ℕ → ℕ → Option ℕ → List Entry → Type 0) (at : ℕ) (high : Option ℕ) (children entries : List Entry) (n : ℕ) (c : Entry)
    → slice_get children n ≡ Some c → Fan Below at children high entries → (c.1 < at) × (low : ℕ) × (high' : Option ℕ) × (es : List Entry) × Below c.1 low high' es
fan_child Below at high [] entries n c is fan = absurd (none-some c is)
fan_child Below at high (x ∷ children) entries zero c is fan =
    let same : x ≡ c = same_Some x c is in
    subst (λ (e : Entry). (e.1 < at) × (low : ℕ) × (high' : Option ℕ) × (es : List Entry) × Below e.1 low high' es) same (fan.0, x.0, border children high, fan.1, fan.4)
fan_child Below at high (x ∷ children) entries (suc n) c is fan = fan_child Below at high children fan.2 n c is fan.5

-- what stands in a block below a root
pub record StandsAt (ok : ℕ → ℕ → Bool) (s : Shelf) (height block : ℕ) : Type 0 where
  pub least : ℕ
  pub low : ℕ
  pub high : Option ℕ
  pub entries : List Entry
  pub tree : TreeAt ok s height least block low high entries

pub no_leaf : (s : Shelf) (at : ℕ) (es fs : List Entry) → NodeAt s at true es → NodeAt s at false fs → ⊥
no_leaf s at es fs leaf inner = true≢false (one_at s at true false es fs leaf inner).0

pub on_way : (ok : ℕ → ℕ → Bool) (s : Shelf) (depth height least at low : ℕ) (high : Option ℕ) (entries : List Entry) (block : ℕ) → Way s depth at block → TreeAt ok s height least at low high entries
    → (rest : ℕ) × (rest + depth ≡ height) × StandsAt ok s rest block
on_way ok s zero height least at low high entries block way tree =
    (height, omega arith, subst (λ (b : ℕ). StandsAt ok s height b) way (record { least = least; low = low; high = high; entries = entries; tree = tree }))
on_way ok s (suc depth) zero least at low high entries block way tree = absurd (no_leaf s at entries way.0 tree.0 way.2)
on_way ok s (suc depth) (suc height) least at low high entries block way tree =
    let same : tree.0 ≡ way.0 = (one_at s at false false tree.0 way.0 tree.1 way.2).1 in
    let fan : Fan (TreeAt ok s height 126) at way.0 high entries = subst (λ (l : List Entry). Fan (TreeAt ok s height 126) at l high entries) same tree.5 in
    let child = fan_child (TreeAt ok s height 126) at high way.0 entries way.3.0 way.1 way.3.1 fan in
    let more = on_way ok s depth height 126 way.1.1 child.1 child.2 child.3 block way.4 child.4 in
    (more.0, omega (arith, more.1), more.2)

-- ---- none of the three ways to break a tree

stands_as_node : (ok : ℕ → ℕ → Bool) (s : Shelf) (height block : ℕ) → StandsAt ok s height block → IsNoNode s block → ⊥
stands_as_node ok s zero block st none = none true st.entries st.tree.0
stands_as_node ok s (suc height) block st none = none false st.tree.0 st.tree.1

children_below : (ok : ℕ → ℕ → Bool) (s : Shelf) (height block : ℕ) → StandsAt ok s height block → HasHighChild s block → ⊥
children_below ok s zero block st child = no_leaf s block st.entries child.0 st.tree.0 child.2
children_below ok s (suc height) block st child =
    let same : st.tree.0 ≡ child.0 = (one_at s block false false st.tree.0 child.0 st.tree.1 child.2).1 in
    let fan : Fan (TreeAt ok s height 126) block child.0 st.high st.entries = subst (λ (l : List Entry). Fan (TreeAt ok s height 126) block l st.high st.entries) same st.tree.5 in
    let found = fan_child (TreeAt ok s height 126) block st.high child.0 st.entries child.3.0 child.1 child.3.1 fan in
    omega (arith, found.0, child.4)

not_deep : (ok : ℕ → ℕ → Bool) (s : Shelf) (height depth block : ℕ) → StandsAt ok s height block → height + depth ≤ 9 → IsTooDeep s depth block → ⊥
not_deep ok s zero depth block st few deep = no_leaf s block st.entries deep.1 st.tree.0 deep.2
not_deep ok s (suc height) depth block st few deep = omega (arith, deep.0)

pub never_breaks : (ok : ℕ → ℕ → Bool) (s : Shelf) (height least root block : ℕ) (entries : List Entry) → TreeAt ok s height least root 0 None entries → BreaksTree s root block → ⊥
never_breaks ok s height least root block entries tree b =
    let there = on_way ok s b.depth height least root 0 None entries block b.reached tree in
    let few : there.0 + b.depth ≤ 9 = omega (arith, there.1, most_high ok s height least root entries tree) in
    elim b.broken [
      | inl none ↦ stands_as_node ok s there.0 block there.2 none
      | inr other ↦ elim other [ inl child ↦ children_below ok s there.0 block there.2 child | inr deep ↦ not_deep ok s there.0 b.depth block there.2 few deep ]
    ]

-- so a look-up in a tree that stands is refused for the disk alone
pub only_disk : (tells : Bool) (ok : ℕ → ℕ → Bool) (s : Shelf) (root : Option ℕ) (entries : List Entry) (file before after : ℕ) (why : Refusal) → IsTrue tells → Tree ok s root entries
    → Reason tells file (BreaksFrom s root) before after why → why ≡ Refusal.DiskFault
only_disk tells ok s root entries file before after why told tree (inl disk) = disk.0
only_disk tells ok s None entries file before after why told tree (inr damaged) = absurd (none-some (damaged.2 told).0 (damaged.2 told).1)
only_disk tells ok s (Some at) entries file before after why told tree (inr damaged) =
    let from = damaged.2 told in
    let same : from.0 ≡ at = sym (same_Some at from.0 from.1) in
    absurd (never_breaks ok s tree.0 1 at damaged.0 entries tree.1 (subst (λ (r : ℕ). BreaksTree s r damaged.0) same from.2))
