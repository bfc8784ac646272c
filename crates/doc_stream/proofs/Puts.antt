-- Bytes put one after another.
use Rattle.std.proofs.Common.{◌≡◌, ℕ, ◌+◌, ◌*◌, ◌<◌, List, [], ◌∷◌, ◌++◌, length, refl, sym, ◌∙◌, ap, subst, arith, length-append, append_assoc, add-zero}
use Rattle.std.proofs.lemmas.List.{append-nil}
use Rattle.block_host.specs.declared.block.Block.{Block}
use Rattle.doc_stream.specs.OpenBlock.{OpenBlock, AreFull, PutsBytes}

-- full blocks behind others
pub full_behind : (revision at : ℕ) (blocks more : List Block) (bytes rest : List ℕ) → AreFull revision at blocks bytes → AreFull revision (at + length blocks) more rest → AreFull revision at (blocks ++ more) (bytes ++ rest)
full_behind revision at [] more bytes rest full behind =
    let here : AreFull revision at more rest = subst (λ (n : ℕ). AreFull revision n more rest) (add-zero at) behind in
    subst (λ (b : List ℕ). AreFull revision at more (b ++ rest)) (sym full) here
full_behind revision at (block ∷ blocks) more bytes rest full behind =
    let tail = full_behind revision (at + 1) blocks more full.1 rest full.5 (subst (λ (n : ℕ). AreFull revision n more rest) (omega arith) behind) in
    (full.0, full.1 ++ rest, ap (λ (b : List ℕ). b ++ rest) full.2 ∙ append_assoc full.0 full.1 rest, full.3, full.4, tail)

pub length-full : (revision at : ℕ) (blocks : List Block) (bytes : List ℕ) → AreFull revision at blocks bytes → length bytes ≡ 4064 * length blocks
length-full revision at [] bytes full = ap length full
length-full revision at (block ∷ blocks) bytes full =
    omega (arith, ap length full.2, length-append full.0 full.1, full.3, length-full revision (at + 1) blocks full.1 full.5)

-- how far an open block moves on, and with it the blocks that went out
pub length-put : (revision : ℕ) (bytes : List ℕ) (a b : OpenBlock) (o p : List Block) → PutsBytes revision bytes a b o p → (b.number * 4064 + length b.bytes ≡ a.number * 4064 + length a.bytes + length bytes) × (length p * 4064 + length b.bytes ≡ length o * 4064 + length a.bytes + length bytes)
length-put revision bytes a b o p put =
    let whole = length-full revision a.number put.more put.whole put.full in
    let all : length a.bytes + length bytes ≡ length put.whole + length b.bytes = sym (length-append a.bytes bytes) ∙ ap length put.all ∙ length-append put.whole b.bytes in
    let out : length p ≡ length o + length put.more = ap length put.out ∙ length-append o put.more in
    let number = put.number in
    (omega arith, omega arith)

pub put_nothing : (revision : ℕ) (a : OpenBlock) (o : List Block) → length a.bytes < 4064 → PutsBytes revision [] a a o o
put_nothing revision a o not_full = record {
  more = [];
  whole = [];
  out = sym (append-nil o);
  full = refl;
  all = append-nil a.bytes;
  number = omega arith;
  count = omega arith;
}

pub put_both : (revision : ℕ) (first second : List ℕ) (a b c : OpenBlock) (o p q : List Block) → length c.bytes < 4064 → PutsBytes revision first a b o p → PutsBytes revision second b c p q → PutsBytes revision (first ++ second) a c o q
put_both revision first second a b c o p q not_full one two =
    let whole = length-full revision a.number one.more one.whole one.full in
    let whole' = length-full revision b.number two.more two.whole two.full in
    let lengths = length-append one.more two.more in
    let both = length-append first second in
    let len : length a.bytes + length first ≡ length one.whole + length b.bytes = sym (length-append a.bytes first) ∙ ap length one.all ∙ length-append one.whole b.bytes in
    let len' : length b.bytes + length second ≡ length two.whole + length c.bytes = sym (length-append b.bytes second) ∙ ap length two.all ∙ length-append two.whole c.bytes in
    let number = one.number in
    let number' = two.number in
    record {
      more = one.more ++ two.more;
      whole = one.whole ++ two.whole;
      out = two.out ∙ ap (λ (l : List Block). l ++ two.more) one.out ∙ append_assoc o one.more two.more;
      full = full_behind revision a.number one.more two.more one.whole two.whole one.full (subst (λ (n : ℕ). AreFull revision n two.more two.whole) one.number two.full);
      all = sym (append_assoc a.bytes first second) ∙ ap (λ (l : List ℕ). l ++ second) one.all ∙ append_assoc one.whole b.bytes second ∙ ap (λ (l : List ℕ). one.whole ++ l) two.all ∙ sym (append_assoc one.whole two.whole c.bytes);
      number = omega arith;
      count = omega arith;
    }

-- of all the bytes those at the front have been put
pub record PutSoFar (revision : ℕ) (all left : List ℕ) (before now : OpenBlock) (out_before out_now : List Block) : Type 0 where
  pub front : List ℕ
  pub split : all ≡ front ++ left
  pub put : PutsBytes revision front before now out_before out_now
  pub not_full : length now.bytes < 4064

-- what is left is no further from the end
pub left_within : (revision : ℕ) (all left : List ℕ) (a b : OpenBlock) (o p : List Block) → PutSoFar revision all left a b o p → (b.number * 4064 + length b.bytes + length left ≡ a.number * 4064 + length a.bytes + length all) × (length p * 4064 + length b.bytes + length left ≡ length o * 4064 + length a.bytes + length all)
left_within revision all left a b o p so_far =
    let moved = length-put revision so_far.front a b o p so_far.put in
    let split = ap length so_far.split ∙ length-append so_far.front left in
    (omega arith, omega arith)

pub put_more : (revision : ℕ) (all left front rest : List ℕ) (a b c : OpenBlock) (o p q : List Block) → PutSoFar revision all left a b o p → left ≡ front ++ rest → PutsBytes revision front b c p q → length c.bytes < 4064 → PutSoFar revision all rest a c o q
put_more revision all left front rest a b c o p q so_far split put not_full = record {
  front = so_far.front ++ front;
  split = so_far.split ∙ ap (λ (l : List ℕ). so_far.front ++ l) split ∙ sym (append_assoc so_far.front front rest);
  put = put_both revision so_far.front front a b c o p q not_full so_far.put put;
  not_full = not_full;
}

-- the four parts of a record
pub put_four : (revision : ℕ) (head key meta body h k m t : List ℕ) (a b c d e : OpenBlock) (o p q r s before : List Block) → head ≡ h → key ≡ k → meta ≡ m → body ≡ t → o ≡ before → length c.bytes < 4064 → length d.bytes < 4064 → length e.bytes < 4064 → PutsBytes revision head a b o p → PutsBytes revision key b c p q → PutsBytes revision meta c d q r → PutsBytes revision body d e r s → PutsBytes revision (h ++ k ++ m ++ t) a e before s
put_four revision head key meta body h k m t a b c d e o p q r s before is_head is_key is_meta is_body is_before not_full not_full' not_full'' one two three four =
    let front = put_both revision head key a b c o p q not_full one two in
    let most = put_both revision (head ++ key) meta a c d o q r not_full' front three in
    let whole = put_both revision (head ++ key ++ meta) body a d e o r s not_full'' most four in
    let bytes : head ++ key ++ meta ++ body ≡ h ++ k ++ m ++ t = cc in
    subst (λ (l : List Block). PutsBytes revision (h ++ k ++ m ++ t) a e l s) is_before
    (subst (λ (l : List ℕ). PutsBytes revision l a e o s) bytes whole)
