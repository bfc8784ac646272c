-- What an unsealing finds, and what is sealed, agree.
use Rattle.std.proofs.Common.{◌≡◌, ℕ, Bool, true, false, List, [], ◌∷◌, length, take, refl, sym, ◌∙◌, ap, true≢false}
use Rattle.std.specs.Prelude.{◌&&◌, ◌==◌, nat_le, Option, Some, None, if◌then◌else◌}
use Rattle.std.proofs.lemmas.Bool.{and_parts, and_from, leb-true, le-leb, eqb-true, eq-eqb}
use Rattle.std.proofs.lemmas.Option.{none-some, same_Some}
use Rattle.block_host.specs.Found.{kind_in, used_in, payload_in, same_bytes, is_sealed, found_in}
use Rattle.block_host.specs.Sealed.{IsSealed, with_checksum, sealed_front, is_whole}
use Rattle.block_host.specs.declared.block.Block.{Block}
use Rattle.block_host.proofs.Back.{kind_back, used_back, payload_back}

same-from : (xs : List ℕ) → same_bytes xs xs ≡ true
same-from [] = refl
same-from (x ∷ xs) = and_from (x == x) (same_bytes xs xs) (eq-eqb x x refl) (same-from xs)

same-to : (xs ys : List ℕ) → same_bytes xs ys ≡ true → xs ≡ ys
same-to [] [] h = refl
same-to [] (y ∷ ys) h = absurd (true≢false (sym h))
same-to (x ∷ xs) [] h = absurd (true≢false (sym h))
same-to (x ∷ xs) (y ∷ ys) h =
    let parts = and_parts (x == y) (same_bytes xs ys) h in
    ap (λ (z : ℕ). z ∷ xs) (eqb-true x y parts.0) ∙ ap (λ (l : List ℕ). y ∷ l) (same-to xs ys parts.1)

sealed-to : (revision at kind : ℕ) (payload : List ℕ) (b : Block) → is_sealed revision at kind payload b ≡ true → IsSealed revision at kind payload b
unfolding is_sealed
sealed-to revision at kind payload b h =
    let whole = with_checksum (sealed_front revision at kind payload) in
    let w = and_parts (nat_le 1 kind && nat_le kind 5 && nat_le (length payload) 4064 && same_bytes b.bytes whole) (is_whole b.bytes) h in
    let p = and_parts (nat_le 1 kind && nat_le kind 5 && nat_le (length payload) 4064) (same_bytes b.bytes whole) w.0 in
    let q = and_parts (nat_le 1 kind && nat_le kind 5) (nat_le (length payload) 4064) p.0 in
    let r = and_parts (nat_le 1 kind) (nat_le kind 5) q.0 in
    record { least = leb-true 1 kind r.0; greatest = leb-true kind 5 r.1; fits = leb-true (length payload) 4064 q.1; bytes = same-to b.bytes whole p.1; whole = w.1 }

sealed-from : (revision at kind : ℕ) (payload : List ℕ) (b : Block) → IsSealed revision at kind payload b → is_sealed revision at kind payload b ≡ true
unfolding is_sealed
sealed-from revision at kind payload b sealed =
    let whole = with_checksum (sealed_front revision at kind payload) in
    and_from (nat_le 1 kind && nat_le kind 5 && nat_le (length payload) 4064 && same_bytes b.bytes whole) (is_whole b.bytes)
    (and_from (nat_le 1 kind && nat_le kind 5 && nat_le (length payload) 4064) (same_bytes b.bytes whole)
    (and_from (nat_le 1 kind && nat_le kind 5) (nat_le (length payload) 4064) (and_from (nat_le 1 kind) (nat_le kind 5) (le-leb 1 kind sealed.least) (le-leb kind 5 sealed.greatest)) (le-leb (length payload) 4064 sealed.fits))
    (ap (λ (l : List ℕ). same_bytes l whole) sealed.bytes ∙ same-from whole))
    sealed.whole

kind_is : (revision at kind : ℕ) (payload : List ℕ) (b : Block) → IsSealed revision at kind payload b → kind_in b ≡ kind
unfolding kind_in
kind_is revision at kind payload b sealed = kind_back revision at kind payload b sealed

payload_is : (revision at kind : ℕ) (payload : List ℕ) (b : Block) → IsSealed revision at kind payload b → payload_in b ≡ payload
unfolding payload_in used_in
payload_is revision at kind payload b sealed =
    ap (λ (n : ℕ). take n b.bytes) (used_back revision at kind payload b sealed) ∙ payload_back revision at kind payload b sealed

pub found : (revision at kind : ℕ) (payload : List ℕ) (b : Block) → IsSealed revision at kind payload b → found_in revision at b ≡ Some (kind, payload)
unfolding found_in
found revision at kind payload b sealed =
    let k = kind_is revision at kind payload b sealed in
    let p = payload_is revision at kind payload b sealed in
    let yes : is_sealed revision at (kind_in b) (payload_in b) b ≡ true =
    ap (λ (n : ℕ). is_sealed revision at n (payload_in b) b) k ∙ ap (λ (l : List ℕ). is_sealed revision at kind l b) p ∙ sealed-from revision at kind payload b sealed in
    ap (λ (t : Bool). if t then Some (kind_in b, payload_in b) else None) yes
    ∙ ap (λ (n : ℕ). Some (n, payload_in b)) k ∙ ap (λ (l : List ℕ). Some (kind, l)) p

abbrev when : Bool → ℕ × List ℕ → Option (ℕ × List ℕ)
when t found = if t then Some found else None

found_so : (revision at kind : ℕ) (payload : List ℕ) (b : Block) (t : Bool) → is_sealed revision at (kind_in b) (payload_in b) b ≡ t
    → when t (kind_in b, payload_in b) ≡ Some (kind, payload) → IsSealed revision at kind payload b
found_so revision at kind payload b false is h = absurd (none-some (kind, payload) h)
found_so revision at kind payload b true is h =
    let same = same_Some (kind_in b, payload_in b) (kind, payload) h in
    sealed-to revision at kind payload b
    (ap (λ (f : ℕ × List ℕ). is_sealed revision at f.0 f.1 b) (sym same) ∙ is)

pub sealed : (revision at kind : ℕ) (payload : List ℕ) (b : Block) → found_in revision at b ≡ Some (kind, payload) → IsSealed revision at kind payload b
unfolding found_in
sealed revision at kind payload b h = found_so revision at kind payload b (is_sealed revision at (kind_in b) (payload_in b) b) refl h
