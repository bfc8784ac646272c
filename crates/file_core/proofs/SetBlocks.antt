-- What a record that is put makes of the open block and of the file.
use Rattle.std.proofs.Common.{◌≡◌, ℕ, ◌+◌, ◌*◌, ◌/◌, ◌%◌, suc, Bool, true, false, List, [], ◌∷◌, ◌++◌, length, refl, sym, ap, subst, ◌∙◌, arith, length-append}
use Rattle.std.specs.Prelude.{IsTrue, ◌&&◌, ◌==◌}
use Rattle.std.specs.List.{list_all}
use Rattle.block_host.specs.declared.block.Block.{Block}
use Rattle.block_host.specs.Sealed.{IsSealed}
use Rattle.block_host.proofs.Back.{kind_back, in_use_back}
use Rattle.doc_stream.specs.OpenBlock.{OpenBlock, AreFull, PutsBytes}
use Rattle.forest_model.specs.Blocks.{is_block, is_records, is_full, in_use}
use Rattle.file_core.specs.Updates.{bytes_of}

full-length : (revision at : ℕ) (blocks : List Block) (whole : List ℕ) → AreFull revision at blocks whole → length whole ≡ length blocks * 4064
full-length revision at [] whole none = ap length none
full-length revision at (b ∷ blocks) whole full = omega (arith, ap length full.2, length-append full.0 full.1, full.3, full-length revision (at + 1) blocks full.1 full.5)

-- the numbers of a put
pub record Lengths (n : ℕ) (before after : OpenBlock) (out : List Block) : Type 0 where
  pub number : after.number ≡ before.number + length out
  pub count : length out ≡ (length before.bytes + n) / 4064
  pub loose : length after.bytes ≡ (length before.bytes + n) % 4064

pub put_lengths : (revision n : ℕ) (bytes : List ℕ) (before after : OpenBlock) (out : List Block) → PutsBytes revision bytes before after [] out → length bytes ≡ n → Lengths n before after out
put_lengths revision n bytes before after out puts is =
    let put : out ≡ puts.more = puts.out in
    let whole : length puts.whole ≡ length puts.more * 4064 = full-length revision before.number puts.more puts.whole puts.full in
    let sum : length before.bytes + n ≡ length puts.whole + length after.bytes = omega (arith, ap length puts.all, length-append before.bytes bytes, length-append puts.whole after.bytes, is) in
    record {
      number = omega (arith, puts.number, ap length put);
      count = omega (arith, puts.count, ap length put, is);
      loose = omega (arith, sum, whole, puts.count, is);
    }

join : (a b : Bool) → IsTrue a → IsTrue b → IsTrue (a && b)
join true b t u = u
join false b t u = t

-- what each full record block has
abbrev HasFull : (List ℕ → Bool) → ℕ → Type 0
HasFull p revision = (at : ℕ) (payload : List ℕ) (block : Block) → IsSealed revision at 1 payload block → length payload ≡ 4064 → IsTrue (p block.bytes)

all_full : (p : List ℕ → Bool) (revision : ℕ) → HasFull p revision → (at : ℕ) (blocks : List Block) (whole : List ℕ) → AreFull revision at blocks whole → IsTrue (list_all p (bytes_of blocks))
all_full p revision has at [] whole full = refl
all_full p revision has at (b ∷ blocks) whole full = join (p b.bytes) (list_all p (bytes_of blocks)) (has at full.0 b full.4 full.3) (all_full p revision has (at + 1) blocks full.1 full.5)

put_all : (p : List ℕ → Bool) (revision : ℕ) → HasFull p revision → (bytes : List ℕ) (before after : OpenBlock) (out : List Block) → PutsBytes revision bytes before after [] out → IsTrue (list_all p (bytes_of out))
put_all p revision has bytes before after out puts =
    subst (λ (bs : List Block). IsTrue (list_all p (bytes_of bs))) (sym puts.out) (all_full p revision has before.number puts.more puts.whole puts.full)

-- the blocks that are put are record blocks, whole and full
pub put_records : (revision : ℕ) (bytes : List ℕ) (before after : OpenBlock) (out : List Block) → PutsBytes revision bytes before after [] out → IsTrue (list_all is_records (bytes_of out))
put_records revision = put_all is_records revision (λ at payload block sealed _. ap (λ k. k == 1) (kind_back revision at 1 payload block sealed))

pub put_whole : (revision : ℕ) (bytes : List ℕ) (before after : OpenBlock) (out : List Block) → PutsBytes revision bytes before after [] out → IsTrue (list_all is_block (bytes_of out))
put_whole revision = put_all is_block revision (λ at payload block sealed _. sealed.whole)

pub put_full : (revision : ℕ) (bytes : List ℕ) (before after : OpenBlock) (out : List Block) → PutsBytes revision bytes before after [] out → IsTrue (list_all is_full (bytes_of out))
put_full revision = put_all is_full revision (λ at payload block sealed is.
    join (is_records block.bytes) (in_use block.bytes == 4064) (ap (λ k. k == 1) (kind_back revision at 1 payload block sealed)) (ap (λ n. n == 4064) (in_use_back revision at 1 payload block sealed ∙ is)))

-- the same behind a file
pub behind : (revision : ℕ) (bytes : List ℕ) (before after : OpenBlock) (file out : List Block) → PutsBytes revision bytes before after [] out → PutsBytes revision bytes before after file (file ++ out)
behind revision bytes before after file out puts = record {
  more = puts.more;
  whole = puts.whole;
  out = ap (λ bs. file ++ bs) puts.out;
  full = puts.full;
  all = puts.all;
  number = puts.number;
  count = puts.count;
}

pub length-bytes_of : (blocks : List Block) → length (bytes_of blocks) ≡ length blocks
length-bytes_of [] = refl
length-bytes_of (b ∷ blocks) = ap suc (length-bytes_of blocks)

pub bytes-append : (a b : List Block) → bytes_of (a ++ b) ≡ bytes_of a ++ bytes_of b
bytes-append [] b = refl
bytes-append (x ∷ a) b = ap (λ xs. x.bytes ∷ xs) (bytes-append a b)
