-- The rules of a state hold after each change that a call makes.
use Rattle.std.proofs.Common.{◌≡◌, ℕ, ◌+◌, ◌≤◌, ◌<◌, ◌&&◌, false, List, [], ◌∷◌, ◌++◌, length, Option, Some, None, codes, nat_eq, nat_le, inl, inr, refl, sym, ap, subst, ◌∙◌, arith}
use Rattle.std.specs.List.{AllByRecursion}
use Rattle.std.specs.Option.{is_none, is_some}
use Rattle.std.specs.Cmp.Lexicographic.{pointwise}
use Rattle.std.proofs.lemmas.Bool.{and_cases, leb-false, true≢false}
use Rattle.forest_model.specs.Documents.{Map, without_store}
use Rattle.forest_model.specs.Stores.{store_named, with_seq, new_store, without, from_number}
use Rattle.forest_model.specs.State.{AreKept, IsState, IsCommit, EachLater, IfCopying, IdsBelow, retained}
use Rattle.forest_model.specs.Step.{updated, committed, rolled_back, switched}
use Rattle.forest_model.specs.declared.state.Store.{Store}
use Rattle.forest_model.specs.declared.state.Commit.{Commit}
use Rattle.forest_model.specs.declared.state.Copying.{Copying}
use Rattle.forest_model.specs.declared.state.State.{State}
use Rattle.model_laws.proofs.Commits.{IsFrom, from_number_is}
use Rattle.model_laws.proofs.KeptStores.{opened_kept, closed_kept}
use Rattle.model_laws.proofs.Lists.{all_weaker, all_mapped, all_added, all_filtered, all_behind, later_behind}
use Rattle.model_laws.proofs.Stores.{id-at_seq}

-- ids below a number are below a later one
ids_below : (m n : ℕ) (stores : List Store) → m ≤ n → IdsBelow m stores → IdsBelow n stores
ids_below m n stores le h = all_weaker (λ s. s.id < m) (λ s. s.id < n) (λ s l. omega arith) stores h

ids_with_seq : (next id seq : ℕ) (stores : List Store) → IdsBelow next stores → IdsBelow next (with_seq stores id seq)
ids_with_seq next id seq stores h = all_mapped (λ s. s.id < next) (λ s. s.id < next) _ (λ s l. subst (λ n. n < next) (sym (id-at_seq id seq s)) l) stores h

-- each commit's ids are below the next that is drawn
ids_of_commits : (s : State) → IsState s → AllByRecursion (λ c. IdsBelow s.next_store c.stores) (retained s)
ids_of_commits s h =
    all_weaker (λ c. IdsBelow s.kept c.stores) (λ c. IdsBelow s.next_store c.stores) (λ c b. ids_below s.kept s.next_store c.stores h.kept_drawn b) (retained s) h.kept_ids

if_weaker : (o : Option Copying) (P Q : Copying → Type 0) → ((c : Copying) → P c → Q c) → IfCopying o P → IfCopying o Q
if_weaker None P Q h a = tt
if_weaker (Some c) P Q h a = h c a

if_none : (o : Option Copying) (P : Copying → Type 0) → is_some o ≡ false → IfCopying o P
if_none None P e = tt
if_none (Some c) P e = absurd (true≢false e)

-- other stores and documents, and bytes in the open block
changed : (s : State) (bytes : ℕ) (stores : List Store) (m : Map) → IsState s → AreKept stores m → IdsBelow s.next_store stores
    → IsState (record (updated s bytes) { stores = stores; documents = m })
changed s bytes stores m h now ids = record {
  now = now;
  commits = h.commits;
  newest_first = h.newest_first;
  numbers_drawn = h.numbers_drawn;
  kept_ids = h.kept_ids;
  ids_drawn = ids;
  kept_drawn = h.kept_drawn;
  tickets = h.tickets;
  copies = h.copies;
  open_block = omega arith;
}

-- documents of a store at a later number
pub written_rules : (s : State) (bytes id seq : ℕ) (m : Map) → IsState s → AreKept (with_seq s.stores id seq) m
    → IsState (record (updated s bytes) { stores = with_seq s.stores id seq; documents = m })
written_rules s bytes id seq m h now = changed s bytes (with_seq s.stores id seq) m h now (ids_with_seq s.next_store id seq s.stores h.ids_drawn)

pub opened_rules : (s : State) (bytes : ℕ) (name : List ℕ) → IsState s → store_named s.stores name ≡ None
    → (is_none (store_named s.stores name) && nat_le 64 (length s.stores)) ≡ false
    → IsState (record (updated s bytes) { stores = s.stores ++ new_store s.next_store name ∷ []; next_store = s.next_store + 1 })
opened_rules s bytes name h none few = record {
  now = opened_kept s.stores s.documents s.next_store name h.now h.ids_drawn none less;
  commits = h.commits;
  newest_first = h.newest_first;
  numbers_drawn = h.numbers_drawn;
  kept_ids = h.kept_ids;
  ids_drawn = all_added (λ t. t.id < s.next_store + 1) s.stores (new_store s.next_store name) below (omega arith);
  kept_drawn = omega (arith, h.kept_drawn);
  tickets = h.tickets;
  copies = h.copies;
  open_block = omega arith;
}
  where
    below : IdsBelow (s.next_store + 1) s.stores
    below = ids_below s.next_store (s.next_store + 1) s.stores (omega arith) h.ids_drawn

    less : length s.stores < 64
    less = elim (and_cases _ (nat_le 64 (length s.stores)) few) [
      | inl e ↦ absurd (true≢false (sym (ap is_none none) ∙ e))
      | inr e ↦ leb-false 64 (length s.stores) e
    ]

pub closed_rules : (s : State) (bytes : ℕ) (name : List ℕ) (st : Store) → IsState s → store_named s.stores name ≡ Some st → pointwise nat_eq name (codes "default") ≡ false
    → IsState (record (updated s bytes) { stores = without s.stores st.id; documents = without_store s.documents st.id })
closed_rules s bytes name st h found other =
    changed s bytes (without s.stores st.id) (without_store s.documents st.id) h (closed_kept s.stores s.documents name st h.now found other)
    (all_filtered (λ t. t.id < s.next_store) _ s.stores h.ids_drawn)

pub committed_rules : (s : State) → IsState s → IsState (committed s)
committed_rules s h = record {
  now = h.now;
  commits = (h.now, h.commits);
  newest_first = (h.numbers_drawn, h.newest_first);
  numbers_drawn = (omega arith, all_weaker (λ c. c.number < s.next_commit) (λ c. c.number < s.next_commit + 1) (λ c l. omega arith) (retained s) h.numbers_drawn);
  kept_ids = (h.ids_drawn, ids_of_commits s h);
  ids_drawn = h.ids_drawn;
  kept_drawn = omega arith;
  tickets = h.tickets;
  copies = if_weaker s.copying _ _ (λ c w. (w.0, w.1, inr w.2)) h.copies;
  open_block = omega arith;
}

pub rolled_back_rules : (s : State) (number : ℕ) (target : Commit × List Commit) → IsState s
    → from_number number (retained s) ≡ Some target → is_some s.copying ≡ false → IsState (rolled_back s target)
rolled_back_rules s number target h found idle = record {
  now = commits.0;
  commits = commits;
  newest_first = later_behind _ from.newer (target.0 ∷ target.1) (subst (EachLater _) from.among h.newest_first);
  numbers_drawn = behind (λ c. c.number < s.next_commit) h.numbers_drawn;
  kept_ids = ids;
  ids_drawn = ids.0;
  kept_drawn = omega arith;
  tickets = h.tickets;
  copies = if_none s.copying _ idle;
  open_block = omega arith;
}
  where
    from : IsFrom number (retained s) target
    from = from_number_is number (retained s) target found

    behind : (P : Commit → Type 0) → AllByRecursion P (retained s) → AllByRecursion P (target.0 ∷ target.1)
    behind P a = all_behind P from.newer (target.0 ∷ target.1) (subst (AllByRecursion P) from.among a)

    commits : AllByRecursion IsCommit (target.0 ∷ target.1)
    commits = behind IsCommit h.commits

    ids : AllByRecursion (λ c. IdsBelow s.next_store c.stores) (target.0 ∷ target.1)
    ids = behind (λ c. IdsBelow s.next_store c.stores) (ids_of_commits s h)

pub begun_rules : (s : State) → IsState s
    → IsState (record (updated s 0) { copying = Some (record { ticket = s.next_ticket; base = s.last.number }); next_ticket = s.next_ticket + 1 })
begun_rules s h = record {
  now = h.now;
  commits = h.commits;
  newest_first = h.newest_first;
  numbers_drawn = h.numbers_drawn;
  kept_ids = h.kept_ids;
  ids_drawn = h.ids_drawn;
  kept_drawn = h.kept_drawn;
  tickets = omega arith;
  copies = (h.tickets, omega arith, inl refl);
  open_block = omega arith;
}

pub switched_rules : (s : State) → IsState s → IsState (switched s)
switched_rules s h = record {
  now = h.now;
  commits = (h.commits.0, tt);
  newest_first = (tt, tt);
  numbers_drawn = (h.numbers_drawn.0, tt);
  kept_ids = ((ids_of_commits s h).0, tt);
  ids_drawn = h.ids_drawn;
  kept_drawn = omega arith;
  tickets = h.tickets;
  copies = tt;
  open_block = omega arith;
}

pub cancelled_rules : (s : State) → IsState s → IsState (record (updated s 0) { copying = None })
cancelled_rules s h = record {
  now = h.now;
  commits = h.commits;
  newest_first = h.newest_first;
  numbers_drawn = h.numbers_drawn;
  kept_ids = h.kept_ids;
  ids_drawn = h.ids_drawn;
  kept_drawn = h.kept_drawn;
  tickets = h.tickets;
  copies = tt;
  open_block = omega arith;
}
