-- Chunks that rise, seen one behind another.
use Rattle.std.proofs.Common.{◌≡◌, ◌<◌, ◌≤◌, ◌+◌, ◌*◌, ℕ, Bool, true, false, ◌&&◌, List, [], ◌∷◌, drop, add-one, refl, sym, ◌∙◌, ap, arith}
use Rattle.std.specs.Prelude.{nat_lt}
use Rattle.std.specs.List.{list_all}
use Rattle.std.proofs.lemmas.Bool.{and_parts, and_from, ltb-true, lt-ltb, le-ltb}
use Rattle.std.proofs.lemmas.List.{drop_all, drop-drop}
use Rattle.node_page.specs.Nodes.{Entry, rises}
use Rattle.node_page.specs.Reading.{long_in, entry_in, entries_in}
use Rattle.node_page.proofs.Parts.{drop_parts, length_parts}

-- each chunk is above the one before it, and the first one above this
abbrev pub rises_above : ℕ → List Entry → Bool
rises_above last [] = true
rises_above last (e ∷ later) = nat_lt last e.0 && rises_above e.0 later

absorbed : (p l r : Bool) → (p ≡ true → r ≡ true → l ≡ true) → ((p && l) && r) ≡ (p && r)
absorbed false l r h = refl
absorbed true true r h = refl
absorbed true false false h = refl
absorbed true false true h = h refl refl

all_above : (a b : ℕ) (es : List Entry) → a < b → list_all (λ (o : Entry). nat_lt b o.0) es ≡ true → list_all (λ (o : Entry). nat_lt a o.0) es ≡ true
all_above a b [] less is = refl
all_above a b (e ∷ es) less is =
    let parts = and_parts (nat_lt b e.0) (list_all (λ (o : Entry). nat_lt b o.0) es) is in
    let above : b < e.0 = ltb-true b e.0 parts.0 in
    and_from (nat_lt a e.0) (list_all (λ (o : Entry). nat_lt a o.0) es) (lt-ltb a e.0 (omega arith)) (all_above a b es less parts.1)

rises_is : (e : Entry) (es : List Entry) → rises (e ∷ es) ≡ rises_above e.0 es
rises_is e [] = refl
rises_is e (f ∷ es) =
    absorbed (nat_lt e.0 f.0) (list_all (λ (o : Entry). nat_lt e.0 o.0) es) (rises (f ∷ es))
    (λ less risen. all_above e.0 f.0 es (ltb-true e.0 f.0 less) (and_parts (list_all (λ (o : Entry). nat_lt f.0 o.0) es) (rises es) risen).0)
    ∙ ap (λ (b : Bool). nat_lt e.0 f.0 && b) (rises_is f es)

chunk_place : (n : ℕ) (bytes : List ℕ) → long_in (drop (16 * n) (drop 16 bytes)) ≡ long_in (drop (16 + 16 * n) bytes)
chunk_place n bytes = ap long_in (drop-drop (16 * n) 16 bytes)

-- so far the chunks rise up to this one, and the rest decides
pub record RisesTo (count n last : ℕ) (bytes : List ℕ) : Type 0 where
  pub some : 1 ≤ n
  pub within : n ≤ count
  pub decides : rises (entries_in count bytes) ≡ rises_above last (drop n (entries_in count bytes))

module _ (count : ℕ) (bytes : List ℕ) where
  here : (n : ℕ) → n < count → drop n (entries_in count bytes) ≡ entry_in (drop (16 * n) (drop 16 bytes)) ∷ drop (n + 1) (entries_in count bytes)
  here n within = rw add-one (drop_parts entry_in 16 count n (drop 16 bytes) within)

  pub first_chunk : (last : ℕ) → 1 ≤ count → last ≡ long_in (drop 16 bytes) → RisesTo count 1 last bytes
  first_chunk last some is = record {
    some = omega arith;
    within = some;
    decides = ap rises (here 0 (omega arith)) ∙ rises_is (entry_in (drop 16 bytes)) (drop 1 (entries_in count bytes)) ∙ ap (λ (k : ℕ). rises_above k (drop 1 (entries_in count bytes))) (sym is);
  }

  step : (n last chunk : ℕ) → n < count → chunk ≡ long_in (drop (16 + 16 * n) bytes)
      → rises_above last (drop n (entries_in count bytes)) ≡ (nat_lt last chunk && rises_above chunk (drop (n + 1) (entries_in count bytes)))
  step n last chunk within is =
      ap (rises_above last) (here n within)
      ∙ ap (λ (k : ℕ). nat_lt last k && rises_above k (drop (n + 1) (entries_in count bytes))) (chunk_place n bytes ∙ sym is)

  pub next_chunk : (n last chunk : ℕ) → RisesTo count n last bytes → n < count → chunk ≡ long_in (drop (16 + 16 * n) bytes)
      → last < chunk → RisesTo count (n + 1) chunk bytes
  next_chunk n last chunk so_far within is less = record {
    some = omega arith;
    within = omega arith;
    decides = so_far.decides ∙ step n last chunk within is ∙ ap (λ (b : Bool). b && rises_above chunk (drop (n + 1) (entries_in count bytes))) (lt-ltb last chunk less);
  }

  pub no_rise : (n last chunk : ℕ) → RisesTo count n last bytes → n < count → chunk ≡ long_in (drop (16 + 16 * n) bytes)
      → chunk ≤ last → false ≡ rises (entries_in count bytes)
  no_rise n last chunk so_far within is above =
      sym (so_far.decides ∙ step n last chunk within is ∙ ap (λ (b : Bool). b && rises_above chunk (drop (n + 1) (entries_in count bytes))) (le-ltb last chunk above))

  pub all_rise : (n last : ℕ) → RisesTo count n last bytes → count ≤ n → true ≡ rises (entries_in count bytes)
  all_rise n last so_far past =
      sym (so_far.decides ∙ ap (rises_above last) (drop_all n (entries_in count bytes) (omega (arith, length_parts entry_in 16 count (drop 16 bytes)))))
