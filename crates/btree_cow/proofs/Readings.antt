-- What is read of a node.
use Rattle.std.proofs.Common.{◌≡◌, inr, ℕ, zero, suc, ◌+◌, Bool, List, [], ◌∷◌, ◌++◌, take, sym, ap, ◌∙◌, subst, arith}
use Rattle.std.specs.Prelude.{Some, IsTrue, slice_get}
use Rattle.std.proofs.lemmas.Option.{none-some, same_Some}
use Rattle.forest_model.specs.declared.refusal.Refusal.TheVariants as Refusal
use Rattle.node_page.specs.Nodes.{Entry, IsNode}
use Rattle.node_page.specs.declared.page.Page.{Page}
use Rattle.btree_cow.specs.Shelf.{Shelf, Stored, is_stored}
use Rattle.btree_cow.specs.Barred.{NodeFails}
use Rattle.btree_cow.specs.Causes.{IsNoNode}
use Rattle.btree_cow.specs.Growing.{IsRead}

-- one more entry of those that are read
take_read : (xs : List Entry) (n : ℕ) (e : Entry) → slice_get xs n ≡ Some e → take (n + 1) xs ≡ take n xs ++ e ∷ []
take_read xs n e is = let more : n + 1 ≡ suc n = omega arith in ap (λ (k : ℕ). take k xs) more ∙ next xs n is
  where
    next : (ys : List Entry) (k : ℕ) → slice_get ys k ≡ Some e → take (suc k) ys ≡ take k ys ++ e ∷ []
    next [] k is = absurd (none-some e is)
    next (y ∷ ys) zero is = ap (λ (x : Entry). x ∷ []) (same_Some y e is)
    next (y ∷ ys) (suc k) is = ap (λ (l : List Entry). y ∷ l) (next ys k is)

pub read_more : (entries read read' : List Entry) (n : ℕ) (e : Entry) → read ≡ take n entries → slice_get entries n ≡ Some e → read' ≡ read ++ e ∷ [] → read' ≡ take (n + 1) entries
read_more entries read read' n e so is more = more ∙ ap (λ (l : List Entry). l ++ e ∷ []) so ∙ sym (take_read entries n e is)

pub read_so : (tells : Bool) (s : Shelf) (at : ℕ) (page : Page) (leaf : Bool) (content entries : List Entry) → (IsTrue tells → is_stored s 2 at page) → IsNode page leaf entries → content ≡ entries → IsRead tells s at leaf content
read_so tells s at page leaf content entries given node same =
    subst (λ (l : List Entry). IsRead tells s at leaf l) (sym same)
    (record { node = λ told. (page, given told, node); some = node.some; most = node.most; rise = node.rise })

no_node : (s : Shelf) (at : ℕ) (page : Page) → is_stored s 2 at page → ((leaf : Bool) (entries : List Entry) → IsNode page leaf entries → ⊥) → IsNoNode s at
no_node s at page given none leaf entries node =
    let stored : Some (record { kind = 2; page = node.0 }) ≡ Some (record { kind = 2; page = page }) = sym node.1 ∙ given in
    let same : node.0 ≡ page = ap (λ (st : Stored). st.page) (same_Some (record { kind = 2; page = node.0 }) (record { kind = 2; page = page }) stored) in
    none leaf entries (subst (λ (p : Page). IsNode p leaf entries) same node.2)

pub no_node_here : (tells : Bool) (old new : Shelf) (at file before after : ℕ) (page : Page) → (IsTrue tells → is_stored old 2 at page) → ((leaf : Bool) (entries : List Entry) → IsNode page leaf entries → ⊥) → new ≡ old → file ≡ new.file
    → NodeFails tells old at before after (Refusal.Damaged file at)
no_node_here tells old new at file before after page given none kept is =
    inr (ap (λ (f : ℕ). Refusal.Damaged f at) (is ∙ ap (λ (s : Shelf). s.file) kept), λ told. no_node old at page (given told) none)
