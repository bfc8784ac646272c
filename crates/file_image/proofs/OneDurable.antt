-- An image stands for no two.
use Rattle.std.proofs.Common.{◌≡◌, ℕ, ◌-◌, List, [], ◌∷◌, Option, Some, sym, ◌∙◌, ap, subst}
use Rattle.std.specs.FinMap as finite
use Rattle.std.proofs.lemmas.Option.{same_Some}
use Rattle.block_host.specs.Disk.{Image}
use Rattle.block_host.specs.declared.block.Block.{Block}
use Rattle.doc_stream.specs.Fold.{after_records}
use Rattle.doc_stream.specs.Runs.{RecordsOf}
use Rattle.forest_model.specs.Documents.{Map}
use Rattle.forest_model.specs.State.{Durable}
use Rattle.forest_model.specs.declared.state.Commit.{Commit}
use Rattle.forest_model.specs.declared.state.Store.{Store}
use Rattle.forest_model.specs.declared.stored.Header.{Header}
use Rattle.forest_model.specs.declared.stored.Rec.{Rec}
use Rattle.header_block.specs.Headers.{AreHeadersOf, Placed}
use Rattle.meta_slots.specs.Slots.{IsCurrent, Slot}
use Rattle.file_image.specs.Commits.{AreCommitsOf, IsCommitOf}
use Rattle.file_image.specs.Stands.{Stands, StandsBy}

-- what the crates below say
abbrev pub OneScan : Type 0
OneScan = (revision : ℕ) (file : List Block) (start count : ℕ) (records others : List (ℕ × Rec)) → RecordsOf revision file start count records → RecordsOf revision file start count others → records ≡ others

abbrev pub OneList : Type 0
OneList = (revision : ℕ) (file : List Block) (last last' : Placed) (older older' : List Placed) → AreHeadersOf revision file last older → AreHeadersOf revision file last' older' → last ∷ older ≡ last' ∷ older'

abbrev pub OneCurrent : Type 0
OneCurrent = (slot0 slot1 : Block) (a b : Option Slot) → IsCurrent slot0 slot1 a → IsCurrent slot0 slot1 b → a ≡ b

module _ (scan : OneScan) (list : OneList) (current : OneCurrent) where
  commit_once : (revision : ℕ) (file : List Block) (at : ℕ) (h : Header) (c e : Commit) → IsCommitOf revision file at h c → IsCommitOf revision file at h e → c ≡ e
  commit_once revision file at h c e a b =
      let same = scan revision file h.wal_from (at - h.wal_from) a.records b.records a.read b.read in
      let documents : c.documents ≡ e.documents = a.made.folded ∙ ap (λ (l : List (ℕ × Rec)). (after_records ([], finite.empty) l).1) same ∙ sym b.made.folded in
      let make : ℕ → List Store → Map → Commit = λ n s d. record { number = n; stores = s; documents = d } in
      ap (λ (n : ℕ). make n c.stores c.documents) (a.number ∙ sym b.number) ∙ ap (λ (s : List Store). make e.number s c.documents) (a.stores ∙ sym b.stores) ∙ ap (λ (d : Map). make e.number e.stores d) documents

  commits_once : (revision : ℕ) (file : List Block) (headers : List Placed) (cs es : List Commit) → AreCommitsOf revision file headers cs → AreCommitsOf revision file headers es → cs ≡ es
  commits_once revision file [] cs es a b = a ∙ sym b
  commits_once revision file (h ∷ headers) [] es a b = absurd a
  commits_once revision file (h ∷ headers) (c ∷ cs) [] a b = absurd b
  commits_once revision file (h ∷ headers) (c ∷ cs) (e ∷ es) a b =
      ap (λ (x : Commit). x ∷ cs) (commit_once revision file h.0 h.1 c e a.0 b.0) ∙ ap (λ (l : List Commit). e ∷ l) (commits_once revision file headers cs es a.1 b.1)

  same_durable : (d e : Durable) → d.commits ≡ e.commits → d.next_commit ≡ e.next_commit → d.next_store ≡ e.next_store → d.revision ≡ e.revision → d.generation ≡ e.generation → d ≡ e
  same_durable d e commits next_commit next_store revision generation =
      let make : List Commit → ℕ → ℕ → ℕ → ℕ → Durable = λ c n s r g. record { commits = c; next_commit = n; next_store = s; revision = r; generation = g } in
      ap (λ (c : List Commit). make c d.next_commit d.next_store d.revision d.generation) commits
      ∙ ap (λ (n : ℕ). make e.commits n d.next_store d.revision d.generation) next_commit
      ∙ ap (λ (s : ℕ). make e.commits e.next_commit s d.revision d.generation) next_store
      ∙ ap (λ (r : ℕ). make e.commits e.next_commit e.next_store r d.generation) revision
      ∙ ap (λ (g : ℕ). make e.commits e.next_commit e.next_store e.revision g) generation

  by_once : (file file' : List Block) (at at' : ℕ) (h h' : Header) (d e : Durable) → file ≡ file' → d.revision ≡ e.revision → d.generation ≡ e.generation → StandsBy file at h d → StandsBy file' at' h' e → d ≡ e
  by_once file file' at at' h h' d e same_file revision generation a b =
      let headers' : AreHeadersOf d.revision file (at', h') b.older = subst (λ (f : List Block). AreHeadersOf d.revision f (at', h') b.older) (sym same_file) (subst (λ (r : ℕ). AreHeadersOf r file' (at', h') b.older) (sym revision) b.headers) in
      let commits' : AreCommitsOf d.revision file ((at', h') ∷ b.older) e.commits = subst (λ (f : List Block). AreCommitsOf d.revision f ((at', h') ∷ b.older) e.commits) (sym same_file) (subst (λ (r : ℕ). AreCommitsOf r file' ((at', h') ∷ b.older) e.commits) (sym revision) b.commits) in
      let same : (at, h) ∷ a.older ≡ (at', h') ∷ b.older = list d.revision file (at, h) (at', h') a.older b.older a.headers headers' in
      let first : ◌≡◌ {A = Placed} (at, h) (at', h') = cc in
      let header : h ≡ h' = ap (λ (x : Placed). x.1) first in
      let commits = commits_once d.revision file ((at, h) ∷ a.older) d.commits e.commits a.commits (subst (λ (l : List Placed). AreCommitsOf d.revision file l e.commits) (sym same) commits') in
      same_durable d e commits (sym a.next_commit ∙ ap (λ (x : Header). x.next_commit) header ∙ b.next_commit) (sym a.next_store ∙ ap (λ (x : Header). x.next_store) header ∙ b.next_store) revision generation

  pub stands_once : (image : Image) (d e : Durable) → Stands image d → Stands image e → d ≡ e
  stands_once image d e a b =
      let now : ◌≡◌ {A = Slot} (d.generation, d.revision) (e.generation, e.revision) = same_Some (d.generation, d.revision) (e.generation, e.revision) (current _ _ (Some (d.generation, d.revision)) (Some (e.generation, e.revision)) a.names.slot b.names.slot) in
      let revision : d.revision ≡ e.revision = ap (λ (x : Slot). x.1) now in
      by_once (image d.revision) (image e.revision) a.at b.at a.header b.header d e (ap image revision) revision (ap (λ (x : Slot). x.0) now) a.by b.by
