use Rattle.std.proofs.Common.{◌≡◌, ℕ, List, ◌++◌, ◌-◌, length, drop, replicate, ◌∙◌, ap, refl}
use Rattle.std.proofs.lemmas.List.{drop-replicate}
use Rattle.node_page.proofs.page.Page.of.Goals as goal

put_front : (n : ℕ) (payload new : List ℕ) → new ≡ payload → new ++ drop (length payload) (replicate n 0) ≡ payload ++ replicate (n - length payload) 0
put_front n payload new is = ap (λ (xs : List ℕ). xs ++ drop (length payload) (replicate n 0)) is ∙ ap (λ (xs : List ℕ). payload ++ xs) (drop-replicate (length payload) n 0)

pub returns : goal.returns
returns c = record {
  fits = c.requires;
  len = refl;
  bytes = put_front 4064 c.args.payload.now c.copy_from_slice.new.self c.copy_from_slice.ensures.after;
}
