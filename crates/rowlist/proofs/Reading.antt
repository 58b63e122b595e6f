-- Reads that follow one another.
use Rattle.std.proofs.Common.{◌≡◌, ◌≤◌, ◌+◌, List, ℕ, ◌++◌, Some, None, length, take, ap, ◌∙◌, sym, length-take-le, subst}
use Rattle.std.proofs.lemmas.List.{append_assoc, take-append-le}
use Rattle.std.proofs.Math.Seq.{take-append-add}
use Rattle.std.specs.Io.KnownBytes.{Consumes}
use Rattle.std.specs.declared.option.Option.{Option}
use borrow.Rule.Slice.PartMut.{put_mid, post_of}

-- who has read some bytes and then others has read both, in turn
consumes_more : (a b c : Option (List ℕ)) (xs ys : List ℕ) → Consumes a b xs → Consumes b c ys → Consumes a c (xs ++ ys)
consumes_more None b c xs ys first second = tt
consumes_more (Some us) None c xs ys first second = elim first [ ]
consumes_more (Some us) (Some vs) None xs ys first second = elim second [ ]
consumes_more (Some us) (Some vs) (Some ws) xs ys first second = first ∙ ap (λ zs. xs ++ zs) second ∙ sym (append_assoc xs ys ws)

-- the front of a list whose part behind i was written anew
front_more : (i k n : ℕ) (xs ys : List ℕ) → i ≤ length xs → n ≤ length ys → take (i + n) (put_mid i k xs ys) ≡ take i xs ++ take n ys
front_more i k n xs ys within fits =
    let whole : length (take i xs) ≡ i = length-take-le i xs within in
    ap (λ m. take (m + n) (put_mid i k xs ys)) (sym whole)
    ∙ take-append-add (take i xs) (ys ++ post_of i k xs) n
    ∙ ap (λ zs. take i xs ++ zs) (take-append-le n ys (post_of i k xs) fits)

-- a read into the part behind what was read before
pub reads_more : (a b c : Option (List ℕ)) (i k n : ℕ) (xs ys : List ℕ) → i ≤ length xs → n ≤ length ys → Consumes a b (take i xs) → Consumes b c (take n ys) → Consumes a c (take (i + n) (put_mid i k xs ys))
reads_more a b c i k n xs ys within fits first second =
    subst (λ zs. Consumes a c zs) (sym (front_more i k n xs ys within fits)) (consumes_more a b c (take i xs) (take n ys) first second)
