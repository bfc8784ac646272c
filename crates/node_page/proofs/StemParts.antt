-- What a page has that is a stem, and that such a page is one.
use Rattle.std.proofs.Common.{◌≡◌, ◌<◌, ◌≤◌, ◌+◌, ◌*◌, ◌^◌, ℕ, List, ◌++◌, length, take, drop, Some, sym, subst, ◌∙◌, ap, arith, take-append-drop, length-append, length-drop}
use Rattle.std.specs.List.{flat_map, slice_get}
use Rattle.std.proofs.lemmas.Bool.{lt-ltb, and_from}
use Rattle.std.proofs.lemmas.List.{drop-drop}
use Rattle.node_page.specs.Nodes.{Entry, entry_bytes, long}
use Rattle.node_page.specs.Pages.{IsPage}
use Rattle.node_page.specs.Reading.{AreBytes, IsZeroFrom, entry_in, long_in, parts_in}
use Rattle.node_page.specs.Stems.{IsStem, is_long}
use Rattle.node_page.specs.declared.page.Page.{Page}
use Rattle.node_page.proofs.Parts.{Holds, bytes_drop, holds, length_parts, made, part_at, parts_fit}
use Rattle.node_page.proofs.Longs.{entry_back, entry_codec, length-long, long_codec, long_small}

length-front : (root count : ℕ) → length (long root ++ long count) ≡ 16
length-front root count = length-append (long root) (long count) ∙ omega (arith, length-long root, length-long count)

stem_holds : (page : Page) (root : ℕ) (chunks : List ℕ) → IsStem page root chunks → Holds long_in 8 (long root ++ long (length chunks)) chunks page
stem_holds page root chunks is = holds long long_in is_long 8 long_codec (long root ++ long (length chunks)) chunks page (length-front root (length chunks)) is.fit is.bytes

-- what is read of a stem
pub record ReadsStem (page : Page) (root count : ℕ) (chunks : List ℕ) (read_root read_count : ℕ) : Type 0 where
  pub root_read : read_root ≡ root
  pub count_read : read_count ≡ length chunks
  pub len : page.len ≡ 16 + 8 * read_count
  pub zeros : IsZeroFrom (8 * (2 + read_count)) page.bytes

pub stem_read : (page : Page) (root : ℕ) (chunks : List ℕ) (read_root read_count : ℕ) → IsStem page root chunks
    → read_root ≡ long_in page.bytes → read_count ≡ long_in (drop 8 page.bytes)
    → ReadsStem page root (length chunks) chunks read_root read_count
stem_read page root chunks read_root read_count is root_is count_is =
    let has = stem_holds page root chunks is in
    let pair : Entry = (root, length chunks) in
    let fits_pair = and_from _ _ (lt-ltb root (2 ^ 64) is.small) (lt-ltb (length chunks) (2 ^ 64) (omega (arith, is.most))) in
    let bytes : page.bytes ≡ entry_bytes pair ++ drop 16 page.bytes = sym (take-append-drop 16 page.bytes) ∙ ap (λ (bs : List ℕ). bs ++ drop 16 page.bytes) has.begins in
    let both : entry_in page.bytes ≡ pair = ap entry_in bytes ∙ entry_back pair (drop 16 page.bytes) fits_pair in
    let counted : read_count ≡ length chunks = count_is ∙ ap (λ (e : Entry). e.1) both in
    let place : 8 * (2 + read_count) ≡ 16 + 8 * length chunks = omega (arith, counted) in
    record {
      root_read = root_is ∙ ap (λ (e : Entry). e.0) both;
      count_read = counted;
      len = omega (arith, has.len, counted);
      zeros = subst (λ (k : ℕ). IsZeroFrom k page.bytes) (sym place) has.zeros;
    }

pub stem_made : (page : Page) (root count first : ℕ) → AreBytes page.bytes → length page.bytes ≡ 4064 → root ≡ long_in page.bytes
    → count ≡ long_in (drop 8 page.bytes) → count ≤ 504 → page.len ≡ 16 + 8 * count → first ≡ 2 + count
    → IsZeroFrom (8 * first) page.bytes
    → (chunks : List ℕ) × (count ≡ length chunks) × IsStem page root chunks
stem_made page root count first are whole root_is count_is most len first_is zeros =
    let chunks = parts_in long_in 8 count (drop 16 page.bytes) in
    let counted : count ≡ length chunks = sym (length_parts long_in 8 count (drop 16 page.bytes)) in
    let begins : take 16 page.bytes ≡ long root ++ long count =
    sym (entry_codec.forth page.bytes are (omega arith)) ∙ ap (λ (k : ℕ). long k ++ long (long_in (drop 8 page.bytes))) (sym root_is) ∙ ap (λ (k : ℕ). long root ++ long k) (sym count_is) in
    let place : 8 * first ≡ 16 + 8 * count = omega (arith, first_is) in (
      chunks,
      counted,
      record {
        most = omega (arith, counted);
        small = subst (λ (k : ℕ). k < 2 ^ 64) (sym root_is) (long_small page.bytes are (omega arith));
        fit = parts_fit long long_in is_long 8 long_codec count (drop 16 page.bytes) (bytes_drop 16 page.bytes are) (omega (arith, length-drop 16 page.bytes));
        bytes = subst (λ (k : ℕ). IsPage (long root ++ long k ++ flat_map long chunks) page) counted
            (made long long_in is_long 8 long_codec (long root ++ long count) count page (length-front root count) (omega arith) are whole len begins
            (subst (λ (k : ℕ). IsZeroFrom k page.bytes) place zeros));
      },
    )

pub chunk_read : (page : Page) (root : ℕ) (chunks : List ℕ) (n at chunk : ℕ) → IsStem page root chunks → n < length chunks
    → at ≡ 16 + 8 * n → chunk ≡ long_in (drop at page.bytes) → slice_get chunks n ≡ Some chunk
chunk_read page root chunks n at chunk is within at_is chunk_is =
    let has = stem_holds page root chunks is in
    let place : drop (8 * n) (drop 16 page.bytes) ≡ drop at page.bytes = drop-drop (8 * n) 16 page.bytes ∙ ap (λ (k : ℕ). drop k page.bytes) (sym at_is) in
    ap (λ (cs : List ℕ). slice_get cs n) (sym has.parts)
    ∙ part_at long_in 8 (length chunks) n (drop 16 page.bytes) within
    ∙ ap (λ (bs : List ℕ). Some (long_in bs)) place
    ∙ ap (λ (k : ℕ). Some k) (sym chunk_is)
