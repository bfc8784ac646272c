-- The files of a new store.
use Rattle.std.proofs.Common.{◌≡◌, ℕ, Bool, true, false, ◌&&◌, eq-eqb, List, [], ◌∷◌, length, refl, sym, ap, subst, ◌∙◌, arith}
use Rattle.std.specs.Prelude.{IsTrue, ◌==◌, ◌↔◌}
use Rattle.std.proofs.lemmas.Bool.{false≢true, eqb-true}
use Rattle.block_host.specs.Calls.{block_at}
use Rattle.block_host.specs.Disk.{Image}
use Rattle.block_host.specs.Sealed.{IsSealed, zero_block}
use Rattle.block_host.specs.declared.block.Block.{Block}
use Rattle.header_block.specs.Layout.{header_bytes}
use Rattle.meta_slots.specs.Slots.{slot_bytes}
use Rattle.file_image.specs.NewStore.{IsNewStore, new_header}

-- two blocks that are sealed alike are the same
same_block : (revision at kind : ℕ) (payload : List ℕ) (a b : Block) → IsSealed revision at kind payload a → IsSealed revision at kind payload b → a ≡ b
same_block revision at kind payload a b x y = ap (λ bytes. record { bytes = bytes }) (x.bytes ∙ sym y.bytes)

two_blocks : (file : List Block) → length file ≡ 2 → file ≡ block_at file 0 ∷ block_at file 1 ∷ []
two_blocks [] n = absurd (omega (arith, n))
two_blocks (a ∷ []) n = absurd (omega (arith, n))
two_blocks (a ∷ b ∷ []) n = refl
two_blocks (a ∷ b ∷ c ∷ file) n = absurd (omega (arith, n))

one_block : (file : List Block) → length file ≡ 1 → file ≡ block_at file 0 ∷ []
one_block [] n = absurd (omega (arith, n))
one_block (a ∷ []) n = refl
one_block (a ∷ b ∷ file) n = absurd (omega (arith, n))

all_five : (a b c d e : Bool) → IsTrue (a && b && c && d && e) → IsTrue a × IsTrue b × IsTrue c × IsTrue d × IsTrue e
all_five true true true true true t = (refl, refl, refl, refl, refl)
all_five true true true true false t = absurd (false≢true t)
all_five true true true false e t = absurd (false≢true t)
all_five true true false d e t = absurd (false≢true t)
all_five true false c d e t = absurd (false≢true t)
all_five false b c d e t = absurd (false≢true t)

five : (a b c d e : Bool) → IsTrue a → IsTrue b → IsTrue c → IsTrue d → IsTrue e → IsTrue (a && b && c && d && e)
five a b c d e p q r s t = rw (p, q, r, s, t) refl

pub new_store : (files : Image) (slot header : Block) (meta file is_slot is_zero is_first : Bool) → IsSealed 0 0 5 (slot_bytes 1 1) slot → IsSealed 1 0 4 (header_bytes new_header) header
    → meta ≡ (length (files 0) == 2) → file ≡ (length (files 1) == 1)
    → IsTrue is_slot ↔ (block_at (files 0) 0 ≡ slot) → IsTrue is_zero ↔ (block_at (files 0) 1 ≡ zero_block) → IsTrue is_first ↔ (block_at (files 1) 0 ≡ header)
    → IsTrue (meta && file && is_slot && is_zero && is_first) ↔ IsNewStore files
new_store files slot header meta file is_slot is_zero is_first s h two one a b c = (there, back) where
  there : IsTrue (meta && file && is_slot && is_zero && is_first) → IsNewStore files
  there t =
      let all = all_five meta file is_slot is_zero is_first t in
      record {
        slot = slot;
        header = header;
        slot_is = s;
        header_is = h;
        meta = two_blocks (files 0) (eqb-true _ _ (sym two ∙ all.0)) ∙ (λ i. a.0 all.2 i ∷ b.0 all.3 i ∷ []);
        file = one_block (files 1) (eqb-true _ _ (sym one ∙ all.1)) ∙ (λ i. c.0 all.4 i ∷ []);
      }

  back : IsNewStore files → IsTrue (meta && file && is_slot && is_zero && is_first)
  back n = five meta file is_slot is_zero is_first
      (two ∙ eq-eqb _ _ (ap length n.meta)) (one ∙ eq-eqb _ _ (ap length n.file))
      (a.1 (ap (λ f. block_at f 0) n.meta ∙ same_block 0 0 5 (slot_bytes 1 1) n.slot slot n.slot_is s))
      (b.1 (ap (λ f. block_at f 1) n.meta))
      (c.1 (ap (λ f. block_at f 0) n.file ∙ same_block 1 0 4 (header_bytes new_header) n.header header n.header_is h))

-- the same by what five calls gave, each of the files that the one before left
module _ (f0 f1 f2 f3 f4 : Image) (slot header : Block) (meta file is_slot is_zero is_first : Bool) where
  pub new_store_by : f1 ≡ f0 → f2 ≡ f1 → f3 ≡ f2 → f4 ≡ f3 → IsSealed 0 0 5 (slot_bytes 1 1) slot → IsSealed 1 0 4 (header_bytes new_header) header
      → meta ≡ (length (f0 0) == 2) → file ≡ (length (f1 1) == 1)
      → IsTrue is_slot ↔ (block_at (f2 0) 0 ≡ slot) → IsTrue is_zero ↔ (block_at (f3 0) 1 ≡ zero_block) → IsTrue is_first ↔ (block_at (f4 1) 0 ≡ header)
      → meta ≡ true → file ≡ true → is_slot ≡ true → is_zero ≡ true → IsTrue is_first ↔ IsNewStore f0
  new_store_by e1 e2 e3 e4 s h two one a b c m f u z =
      let g2 = e2 ∙ e1 in
      let g3 = e3 ∙ g2 in
      let g4 = e4 ∙ g3 in
      new_store f0 slot header true true true true is_first s h (sym m ∙ two) (sym f ∙ subst (λ (i : Image). file ≡ (length (i 1) == 1)) e1 one)
      (subst (λ (t : Bool). IsTrue t ↔ (block_at (f0 0) 0 ≡ slot)) u (subst (λ (i : Image). IsTrue is_slot ↔ (block_at (i 0) 0 ≡ slot)) g2 a))
      (subst (λ (t : Bool). IsTrue t ↔ (block_at (f0 0) 1 ≡ zero_block)) z (subst (λ (i : Image). IsTrue is_zero ↔ (block_at (i 0) 1 ≡ zero_block)) g3 b))
      (subst (λ (i : Image). IsTrue is_first ↔ (block_at (i 1) 0 ≡ header)) g4 c)
