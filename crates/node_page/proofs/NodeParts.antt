-- What a page has that is a node, and that such a page is one.
use Rattle.std.proofs.Common.{◌≡◌, ◌<◌, ◌+◌, ◌*◌, ℕ, Bool, true, false, List, ◌++◌, length, drop, get_or, Some, refl, sym, subst, ◌∙◌, ap, arith, length-drop, cond}
use Rattle.std.specs.List.{flat_map, slice_get}
use Rattle.std.proofs.lemmas.List.{drop-drop}
use Rattle.node_page.specs.Nodes.{Entry, IsNode, entry_bytes, fits, node_head, rises}
use Rattle.node_page.specs.Pages.{IsPage}
use Rattle.node_page.specs.Reading.{AreBytes, HasHead, IsZeroFrom, entries_in, entry_in, long_in}
use Rattle.node_page.specs.declared.node.NodeHead.{NodeHead}
use Rattle.node_page.specs.declared.page.Page.{Page}
use Rattle.node_page.proofs.Parts.{Holds, bytes_drop, holds, length_parts, made, part_at, parts_fit}
use Rattle.node_page.proofs.Longs.{entry_codec}

length-head : (leaf : Bool) (count : ℕ) → length (node_head leaf count) ≡ 16
length-head leaf count = refl

first_byte : (leaf : Bool) (count : ℕ) → get_or (node_head leaf count) 0 0 ≡ cond leaf 1 2
first_byte leaf count = refl

pub node_holds : (page : Page) (leaf : Bool) (entries : List Entry) → IsNode page leaf entries
    → Holds entry_in 16 (node_head leaf (length entries)) entries page
node_holds page leaf entries is = holds entry_bytes entry_in fits 16 entry_codec (node_head leaf (length entries)) entries page (length-head leaf (length entries)) is.fit is.bytes

pub has_head : (page : Page) (leaf : Bool) (entries : List Entry) → IsNode page leaf entries → HasHead page leaf (length entries)
has_head page leaf entries is = let has = node_holds page leaf entries is in record { some = is.some; most = is.most; len = has.len; bytes = has.begins }

same_leaf : (a b : Bool) → cond {A = ℕ} a 1 2 ≡ cond b 1 2 → a ≡ b
same_leaf true true e = refl
same_leaf false false e = refl
same_leaf true false e = absurd (omega arith)
same_leaf false true e = absurd (omega arith)

-- a page has one head
pub one_head : (page : Page) (leaf other : Bool) (count m : ℕ) → HasHead page leaf count → HasHead page other m → (leaf ≡ other) × (count ≡ m)
one_head page leaf other count m has had =
    let first : cond {A = ℕ} leaf 1 2 ≡ cond other 1 2 = ap (λ (bs : List ℕ). get_or bs 0 0) (sym has.bytes ∙ had.bytes) in
    (same_leaf leaf other first, omega (arith, has.len, had.len))

words : (count : ℕ) → 8 * (2 + 2 * count) ≡ 16 + 16 * count
words count = omega arith

pub node_made : (page : Page) (leaf : Bool) (count first : ℕ) → HasHead page leaf count → AreBytes page.bytes
    → length page.bytes ≡ 4064 → first ≡ 2 + 2 * count → IsZeroFrom (8 * first) page.bytes
    → true ≡ rises (entries_in count page.bytes)
    → (entries : List Entry) × (count ≡ length entries) × IsNode page leaf entries
node_made page leaf count first has are whole is zeros rise =
    let entries = entries_in count page.bytes in
    let counted : count ≡ length entries = sym (length_parts entry_in 16 count (drop 16 page.bytes)) in (
      entries,
      counted,
      record {
        some = omega (arith, counted, has.some);
        most = omega (arith, counted, has.most);
        rise = sym rise;
        fit = parts_fit entry_bytes entry_in fits 16 entry_codec count (drop 16 page.bytes) (bytes_drop 16 page.bytes are) (omega (arith, length-drop 16 page.bytes, has.most));
        bytes = subst (λ (k : ℕ). IsPage (node_head leaf k ++ flat_map entry_bytes entries) page) counted
            (made entry_bytes entry_in fits 16 entry_codec (node_head leaf count) count page (length-head leaf count) (omega (arith, has.most)) are whole has.len has.bytes
            (subst (λ (k : ℕ). IsZeroFrom k page.bytes) (ap (λ (k : ℕ). 8 * k) is ∙ words count) zeros));
      },
    )

pub entry_read : (page : Page) (leaf : Bool) (entries : List Entry) (n at chunk value : ℕ) → IsNode page leaf entries
    → n < length entries → at ≡ 16 + 16 * n → chunk ≡ long_in (drop at page.bytes) → value ≡ long_in (drop (at + 8) page.bytes)
    → slice_get entries n ≡ Some (chunk, value)
entry_read page leaf entries n at chunk value is within at_is chunk_is value_is =
    let has = node_holds page leaf entries is in
    let first : drop (16 * n) (drop 16 page.bytes) ≡ drop at page.bytes = drop-drop (16 * n) 16 page.bytes ∙ ap (λ (k : ℕ). drop k page.bytes) (sym at_is) in
    ap (λ (es : List Entry). slice_get es n) (sym has.parts)
    ∙ part_at entry_in 16 (length entries) n (drop 16 page.bytes) within
    ∙ ap (λ (bs : List ℕ). Some (entry_in bs)) first
    ∙ ap (λ (bs : List ℕ). Some (long_in (drop at page.bytes), long_in bs)) (drop-drop 8 at page.bytes)
    ∙ ap (λ (k : ℕ). Some (k, long_in (drop (at + 8) page.bytes))) (sym chunk_is)
    ∙ ap (λ (k : ℕ). Some (chunk, k)) (sym value_is)

-- the chunks of a node rise
pub risen : (page : Page) (leaf : Bool) (entries : List Entry) (count : ℕ) → IsNode page leaf entries → count ≡ length entries
    → rises (entries_in count page.bytes) ≡ true
risen page leaf entries count is counted =
    ap (λ (k : ℕ). rises (entries_in k page.bytes)) counted ∙ ap rises (node_holds page leaf entries is).parts ∙ is.rise

-- and behind them there are zeros
pub node_zeros : (page : Page) (leaf : Bool) (entries : List Entry) (count first : ℕ) → IsNode page leaf entries
    → count ≡ length entries → first ≡ 2 + 2 * count → IsZeroFrom (8 * first) page.bytes
node_zeros page leaf entries count first is counted first_is =
    let place : 8 * first ≡ 16 + 16 * length entries = omega (arith, counted, first_is) in
    subst (λ (k : ℕ). IsZeroFrom k page.bytes) (sym place) (node_holds page leaf entries is).zeros

pub same_node : (head : NodeHead) (leaf : Bool) (count : ℕ) → head.leaf ≡ leaf → head.count ≡ count → head ≡ record { leaf = leaf; count = count }
same_node head leaf count same counted =
    let node : Bool → ℕ → NodeHead = λ a b. record { leaf = a; count = b } in
    ap (λ a. node a head.count) same ∙ ap (λ b. node leaf b) counted
