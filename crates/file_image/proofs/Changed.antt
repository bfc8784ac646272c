-- What an image stands for after a change.
use Rattle.std.proofs.Common.{◌≡◌, ℕ, ◌+◌, ◌-◌, ◌<◌, ◌≤◌, List, [], ◌∷◌, slice_get, refl, sym, subst, arith}
use Rattle.block_host.specs.declared.block.Block.{Block}
use Rattle.doc_stream.specs.Runs.{RecordsOf}
use Rattle.forest_model.specs.declared.state.Commit.{Commit}
use Rattle.forest_model.specs.declared.stored.Header.{Header}
use Rattle.forest_model.specs.declared.stored.Rec.{Rec}
use Rattle.header_block.specs.Headers.{AreLinked, Placed, SameUpTo}
use Rattle.file_image.specs.Changes.{Add, AddTo, BeginUpTo, Keep, StaysBy}
use Rattle.file_image.specs.Commits.{AreCommitsOf, IsCommitOf}
use Rattle.file_image.specs.Stands.{Names}

-- what the crates below say
abbrev pub ScanStays : Type 0
ScanStays = (revision : ℕ) (old new : List Block) (start count : ℕ) (records : List (ℕ × Rec)) → ((at : ℕ) → start ≤ at → at < start + count → slice_get new at ≡ slice_get old at)
    → RecordsOf revision old start count records → RecordsOf revision new start count records

abbrev pub HeadersFall : Type 0
HeadersFall = (revision : ℕ) (file : List Block) (h g : Placed) (older : List Placed) → AreLinked revision file (h ∷ g ∷ older) → g.0 < h.0

abbrev pub HeadersStay : Type 0
HeadersStay = (revision : ℕ) (old new : List Block) (last : Placed) (older : List Placed) → SameUpTo last.0 old new → AreLinked revision old (last ∷ older) → AreLinked revision new (last ∷ older)

module _ (scan : ScanStays) (fall : HeadersFall) (stay : HeadersStay) where
  commit_stays : (revision upto : ℕ) (old new : List Block) (at : ℕ) (h : Header) (c : Commit) → SameUpTo upto old new → at ≤ upto → IsCommitOf revision old at h c → IsCommitOf revision new at h c
  commit_stays revision upto old new at h c same le a = record {
    number = a.number;
    stores = a.stores;
    no_key_root = a.no_key_root;
    no_seq_root = a.no_seq_root;
    records = a.records;
    read = scan revision old new h.wal_from (at - h.wal_from) a.records (λ i ge lt. same i (omega arith)) a.read;
    made = a.made;
    rules = a.rules;
    count = a.count;
    live = a.live;
  }

  begin_rest : (revision upto : ℕ) (file : List Block) (h : Placed) (older : List Placed) → h.0 ≤ upto → AreLinked revision file (h ∷ older) → BeginUpTo upto older
  begin_rest revision upto file h [] le linked = tt
  begin_rest revision upto file h (g ∷ older) le linked = let lower : g.0 < h.0 = fall revision file h g older linked in omega arith

  commits_stay : (revision upto : ℕ) (old new : List Block) (headers : List Placed) (commits : List Commit) → SameUpTo upto old new → BeginUpTo upto headers → AreLinked revision old headers → AreCommitsOf revision old headers commits → AreCommitsOf revision new headers commits
  commits_stay revision upto old new [] commits same begin linked are = are
  commits_stay revision upto old new (h ∷ headers) [] same begin linked are = are
  commits_stay revision upto old new (h ∷ headers) (c ∷ commits) same begin linked are = (
    commit_stays revision upto old new h.0 h.1 c same begin are.0,
    commits_stay revision upto old new headers commits same (begin_rest revision upto old h headers begin linked) linked.2 are.1,
  )

  linked_stay : (revision upto : ℕ) (old new : List Block) (headers : List Placed) → SameUpTo upto old new → BeginUpTo upto headers → AreLinked revision old headers → AreLinked revision new headers
  linked_stay revision upto old new [] same begin linked = tt
  linked_stay revision upto old new (h ∷ headers) same begin linked = stay revision old new h headers (λ i le. same i (omega arith)) linked

  pub stays_by : StaysBy
  stays_by old new at h d a same last = record {
    older = a.older;
    headers = record { is_last = last; linked = linked_stay d.revision at old new ((at, h) ∷ a.older) same (omega arith) a.headers.linked };
    commits = commits_stay d.revision at old new ((at, h) ∷ a.older) d.commits same (omega arith) a.headers.linked a.commits;
    next_commit = a.next_commit;
    next_store = a.next_store;
  }

  pub keep : Keep
  keep base image d s far = record {
    names = subst (λ (meta : List Block). Names meta d.generation d.revision) (sym far.meta) s.names;
    at = s.at;
    header = s.header;
    by = stays_by (base d.revision) (image d.revision) s.at s.header d s.by far.same far.last;
  }

  pub add_to : AddTo
  add_to revision generation old new upto headers older at h c linked commits adds = record {
    older = headers;
    headers = record { is_last = adds.is_last; linked = (adds.header, adds.links, linked_stay revision upto old new headers adds.same adds.below linked) };
    commits = (adds.commit, commits_stay revision upto old new headers older adds.same adds.below linked commits);
    next_commit = refl;
    next_store = refl;
  }

  pub add : Add
  add base image d s at h c same adds = record {
    names = subst (λ (meta : List Block). Names meta d.generation d.revision) (sym same) s.names;
    at = at;
    header = h;
    by = add_to d.revision d.generation (base d.revision) (image d.revision) s.at ((s.at, s.header) ∷ s.by.older) d.commits at h c s.by.headers.linked s.by.commits adds;
  }
