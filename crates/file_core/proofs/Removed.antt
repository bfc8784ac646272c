-- What a map by store and key has once a key is removed, and what a sum over it comes to.
use Rattle.std.proofs.Common.{◌≡◌, ◌≢◌, ℕ, ◌+◌, Bool, true, false, cond, [], Option, Some, None, refl, sym, ap, ◌∙◌, arith}
use Rattle.std.specs.FinMap as finite
use Rattle.std.specs.Ordering.{eq_by_cmp}
use Rattle.std.specs.Cmp.{eq_by_cmp_equiv}
use Rattle.std.specs.Option.{option_map_or}
use Rattle.std.proofs.lemmas.Bool.{false_from_ne_true}
use Rattle.forest_model.specs.Key.{key_cmp}
use Rattle.forest_model.specs.Documents.{Map, count_of, doc_of}
use Rattle.forest_model.specs.declared.documents.DocKey.{DocKey}
use Rattle.forest_model.specs.declared.documents.Doc.{Doc}
use Rattle.file_image.specs.Commits.{live_of, live_bytes}
use Rattle.file_core.proofs.Inserted.{exact_keys, keys_total, same_key, part, live-insert, count-insert, count-other}

module _ {X : Type 0} where
  pub removed_own : (m : finite.FinMap key_cmp X) (k : DocKey) → finite.get (finite.remove m k) k ≡ None
  removed_own m k = finite.get-remove keys_total m k k ∙ ap (λ b. cond b None (finite.get m k)) ((eq_by_cmp_equiv keys_total).refl k)

  pub removed_other : (m : finite.FinMap key_cmp X) (k q : DocKey) → q ≢ k → finite.get (finite.remove m k) q ≡ finite.get m q
  removed_other m k q n =
      finite.get-remove keys_total m k q ∙ ap (λ b. cond b None (finite.get m q)) (false_from_ne_true (eq_by_cmp key_cmp q k) (λ e. n (same_key q k e)))

  either : (b : Bool) (x o : Option X) → cond b x (cond b None o) ≡ cond b x o
  either true x o = refl
  either false x o = refl

  -- what is put again might as well not have been removed
  put_again : (m : finite.FinMap key_cmp X) (k : DocKey) (x : X) → finite.insert (finite.remove m k) k x ≡ finite.insert m k x
  put_again m k x = finite.same_map keys_total exact_keys _ _ (λ q.
      finite.get-insert keys_total (finite.remove m k) k x q ∙ ap (cond (eq_by_cmp key_cmp q k) (Some x)) (finite.get-remove keys_total m k q)
      ∙ either (eq_by_cmp key_cmp q k) (Some x) (finite.get m q) ∙ sym (finite.get-insert keys_total m k x q))

pub live-remove : (m : Map) (k : DocKey) → live_bytes (finite.remove m k) + part live_of k (finite.get m k) ≡ live_bytes m
live-remove m k =
    let d = doc_of 0 [] [] in
    omega (arith, live-insert (finite.remove m k) k d, ap (part live_of k) (removed_own m k), ap live_bytes (put_again m k d), live-insert m k d)

pub count-remove : (m : Map) (k : DocKey) → count_of (finite.remove m k) k.store + option_map_or (λ _. 1) (finite.get m k) 0 ≡ count_of m k.store
count-remove m k =
    let d = doc_of 0 [] [] in
    omega (arith, count-insert (finite.remove m k) k d, ap {B = ℕ} (λ (o : Option Doc). option_map_or (λ _. 1) o 0) (removed_own m k), ap (λ x. count_of x k.store) (put_again m k d), count-insert m k d)

pub count-remove_other : (m : Map) (k : DocKey) (store : ℕ) → k.store ≢ store → count_of (finite.remove m k) store ≡ count_of m store
count-remove_other m k store other =
    let d = doc_of 0 [] [] in
    sym (count-other (finite.remove m k) k d store other) ∙ ap (λ x. count_of x store) (put_again m k d) ∙ count-other m k d store other
