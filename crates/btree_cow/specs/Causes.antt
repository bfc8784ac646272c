-- Why a walk down a tree ends without an answer.
use Rattle.std.specs.Prelude.{◌≡◌, ◌⊎◌, ℕ, ◌+◌, ◌/◌, ◌≤◌, Bool, false, List, slice_get, Some, IsTrue}
use Rattle.block_host.specs.Disk.{risen}
use Rattle.doc_stream.specs.Causes.{longest_run}
use Rattle.forest_model.specs.declared.refusal.Refusal.{Refusal}
use Rattle.node_page.specs.Nodes.{Entry}
use Rattle.node_page.specs.declared.page.Page.{Page}
use Rattle.btree_cow.specs.Shelf.{Shelf, BreaksAt, is_stored}
use Rattle.btree_cow.specs.Trees.{NodeAt}

-- one of the entries
abbrev pub IsAmong : Entry → List Entry → Type 0
IsAmong e entries = (n : ℕ) × (slice_get entries n ≡ Some e)

-- a block is no page of a kind
abbrev pub IsNoPage : Shelf → ℕ → ℕ → Type 0
IsNoPage s kind at = (page : Page) → is_stored s kind at page → ⊥

-- a block is no node
abbrev pub IsNoNode : Shelf → ℕ → Type 0
IsNoNode s at = (leaf : Bool) (entries : List Entry) → NodeAt s at leaf entries → ⊥

-- a block is an inner node as deep as no tree has one
abbrev pub IsTooDeep : Shelf → ℕ → ℕ → Type 0
IsTooDeep s depth at = (9 ≤ depth) × (children : List Entry) × NodeAt s at false children

-- the reasons not to answer: a count of faults that rose, or a block that bars the way
abbrev pub Reason : Bool → ℕ → (ℕ → Type 0) → ℕ → ℕ → Refusal → Type 0
Reason tells file Breaks before after why =
    ((why ≡ Refusal.DiskFault) × (risen before ≤ after))
    ⊎ ((block : ℕ) × (why ≡ Refusal.Damaged file block) × (IsTrue tells → Breaks block))

-- the refusal of a file without room for a block
abbrev pub is_full : Shelf → Refusal
is_full s = Refusal.FileFull s.used 1 s.max

-- the reasons not to give a page: a count of faults that rose, or the block asked for, which is no page of the kind
abbrev pub PageFails : Bool → Shelf → ℕ → ℕ → ℕ → ℕ → Refusal → Type 0
PageFails tells s kind at before after why =
    ((why ≡ Refusal.DiskFault) × (risen before ≤ after))
    ⊎ ((why ≡ Refusal.Damaged s.file at) × (IsTrue tells → IsNoPage s kind at))

-- The reasons not to append: no room, or a count of faults that rose. Either way the file is as it was: a block whose
-- append failed isn't seen.
abbrev pub AddFails : Shelf → Shelf → ℕ → ℕ → Refusal → Type 0
AddFails old new before after why =
    (((why ≡ is_full old) × (old.most ≤ old.used)) ⊎ ((why ≡ Refusal.DiskFault) × (risen before ≤ after))) × (new ≡ old)

-- The reasons not to give a record: no memory, a count of faults that rose, or a block by which there is no record at the
-- address: the address's own, or one of those behind it that a record may reach.
abbrev pub DocumentFails : Bool → Shelf → ℕ → ℕ → ℕ → Refusal → Type 0
DocumentFails tells s address before after why =
    (why ≡ Refusal.NoMemory) ⊎ ((why ≡ Refusal.DiskFault) × (risen before ≤ after))
    ⊎ ((block : ℕ) × (why ≡ Refusal.Damaged s.file block) × (address / 4096 ≤ block) × (block ≤ address / 4096 + longest_run)
    × (IsTrue tells → BreaksAt s address block))
