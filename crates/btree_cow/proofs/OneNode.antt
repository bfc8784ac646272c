-- A page is at most one node.
use Rattle.std.proofs.Common.{◌≡◌, ℕ, ◌<◌, ◌+◌, ◌-◌, ◌*◌, ◌^◌, Bool, true, false, List, [], ◌∷◌, length, take, drop, get_or, replicate, refl, sym, ap, ◌∙◌, arith, length-append}
use Rattle.std.specs.Prelude.{nat_lt, if◌then◌else◌}
use Rattle.std.specs.Int.{w64, from_be_bytes}
use Rattle.std.specs.List.{list_all, flat_map}
use Rattle.std.proofs.lemmas.Bool.{and_parts, ltb-true}
use Rattle.std.proofs.lemmas.List.{take_at, drop_at}
use Rattle.std.proofs.lemmas.Nat.{from_be_bytes-to_be_bytes_8}
use Rattle.node_page.specs.Pages.{IsPage}
use Rattle.node_page.specs.Nodes.{Entry, long, entry_bytes, node_head, node_bytes, fits, IsNode}
use Rattle.node_page.specs.declared.page.Page.{Page}

length_long : (n : ℕ) → length (long n) ≡ 8
unfolding long
length_long n = refl

one_long : (a b : ℕ) → a < 2 ^ 64 → b < 2 ^ 64 → long a ≡ long b → a ≡ b
unfolding long
one_long a b small small' e = sym (from_be_bytes-to_be_bytes_8 a small) ∙ ap (λ (bs : List ℕ). from_be_bytes w64 bs) e ∙ from_be_bytes-to_be_bytes_8 b small'

length_entry : (e : Entry) → length (entry_bytes e) ≡ 16
length_entry e = length-append (long e.0) (long e.1) ∙ omega (arith, length_long e.0, length_long e.1)

one_entry : (a b : Entry) → fits a ≡ true → fits b ≡ true → entry_bytes a ≡ entry_bytes b → a ≡ b
one_entry (a, v) (b, w) fit fit' e =
    let parts = and_parts (nat_lt a (2 ^ 64)) (nat_lt v (2 ^ 64)) fit in
    let parts' = and_parts (nat_lt b (2 ^ 64)) (nat_lt w (2 ^ 64)) fit' in
    let chunks : long a ≡ long b = sym (take_at (long a) (long v) 8 (length_long a)) ∙ ap (take 8) e ∙ take_at (long b) (long w) 8 (length_long b) in
    let values : long v ≡ long w = sym (drop_at (long a) (long v) 8 (length_long a)) ∙ ap (drop 8) e ∙ drop_at (long b) (long w) 8 (length_long b) in
    ap (λ (n : ℕ). (n, v)) (one_long a b (ltb-true a (2 ^ 64) parts.0) (ltb-true b (2 ^ 64) parts'.0) chunks)
    ∙ ap (λ (n : ℕ). (b, n)) (one_long v w (ltb-true v (2 ^ 64) parts.1) (ltb-true w (2 ^ 64) parts'.1) values)

length_all : (es : List Entry) → length (flat_map entry_bytes es) ≡ 16 * length es
length_all [] = refl
length_all (e ∷ es) = omega (arith, length-append (entry_bytes e) (flat_map entry_bytes es), length_entry e, length_all es)

one_list : (es fs : List Entry) → list_all fits es ≡ true → list_all fits fs ≡ true → length es ≡ length fs → flat_map entry_bytes es ≡ flat_map entry_bytes fs → es ≡ fs
one_list [] [] fit fit' long e = refl
one_list [] (f ∷ fs) fit fit' long e = absurd (omega arith)
one_list (x ∷ es) [] fit fit' long e = absurd (omega arith)
one_list (x ∷ es) (f ∷ fs) fit fit' long e =
    let parts = and_parts (fits x) (list_all fits es) fit in
    let parts' = and_parts (fits f) (list_all fits fs) fit' in
    let heads : entry_bytes x ≡ entry_bytes f = sym (take_at (entry_bytes x) (flat_map entry_bytes es) 16 (length_entry x)) ∙ ap (take 16) e ∙ take_at (entry_bytes f) (flat_map entry_bytes fs) 16 (length_entry f) in
    let tails : flat_map entry_bytes es ≡ flat_map entry_bytes fs = sym (drop_at (entry_bytes x) (flat_map entry_bytes es) 16 (length_entry x)) ∙ ap (drop 16) e ∙ drop_at (entry_bytes f) (flat_map entry_bytes fs) 16 (length_entry f) in
    ap (λ (h : Entry). h ∷ es) (one_entry x f parts.0 parts'.0 heads) ∙ ap (λ (t : List Entry). f ∷ t) (one_list es fs parts.1 parts'.1 (omega arith) tails)

abbrev kind : Bool → ℕ
kind leaf = if leaf then 1 else 2

length_head : (leaf : Bool) (n : ℕ) → length (node_head leaf n) ≡ 16
length_head leaf n = refl

kind_first : (leaf : Bool) (es : List Entry) → get_or (node_bytes leaf es) 0 0 ≡ kind leaf
kind_first leaf es = refl

length_node : (leaf : Bool) (es : List Entry) → length (node_bytes leaf es) ≡ 16 + 16 * length es
length_node leaf es = length-append (node_head leaf (length es)) (flat_map entry_bytes es) ∙ omega (arith, length_head leaf (length es), length_all es)

-- the payload of a page
one_payload : (x y : List ℕ) (page : Page) → IsPage x page → IsPage y page → x ≡ y
one_payload x y page is is' =
    let same : length x ≡ length y = sym is.len ∙ is'.len in
    sym (take_at x (replicate (4064 - length x) 0) (length y) same)
    ∙ ap (take (length y)) (sym is.bytes ∙ is'.bytes)
    ∙ take_at y (replicate (4064 - length y) 0) (length y) refl

one_kind : (a b : Bool) → kind a ≡ kind b → a ≡ b
one_kind true true e = refl
one_kind false false e = refl
one_kind true false e = absurd (omega arith)
one_kind false true e = absurd (omega arith)

pub one_node : (page : Page) (leaf leaf' : Bool) (es fs : List Entry) → IsNode page leaf es → IsNode page leaf' fs → (leaf ≡ leaf') × (es ≡ fs)
one_node page leaf leaf' es fs is is' =
    let same : node_bytes leaf es ≡ node_bytes leaf' fs = one_payload (node_bytes leaf es) (node_bytes leaf' fs) page is.bytes is'.bytes in
    let long : length es ≡ length fs = omega (arith, ap (λ (l : List ℕ). length l) same, length_node leaf es, length_node leaf' fs) in (
      one_kind leaf leaf' (sym (kind_first leaf es) ∙ ap (λ (l : List ℕ). get_or l 0 0) same ∙ kind_first leaf' fs),
      one_list es fs is.fit is'.fit long
          (sym (drop_at (node_head leaf (length es)) (flat_map entry_bytes es) 16 (length_head leaf (length es)))
          ∙ ap (drop 16) same
          ∙ drop_at (node_head leaf' (length fs)) (flat_map entry_bytes fs) 16 (length_head leaf' (length fs))),
    )
