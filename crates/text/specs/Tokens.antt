-- The tokens of a chart's body.
--
-- Piece       a bar mark at a place, or a symbol with its bytes and its place: the offset of its first byte
-- blank       a space or a line feed
-- in_symbol   a byte of a symbol: neither blank nor a bar mark
-- joined_to   a symbol's byte before the tokens that follow it: it joins a symbol that begins right behind it
-- tokens      the tokens of bytes whose first byte stands at a place
-- left_from   the tokens of a text from an offset on
-- piece_of    the piece that a token of the code is
use Rattle.std.specs.Prelude.{ℕ, ◌+◌, Bool, cond, not, ◌&&◌, ◌||◌, List, [], ◌∷◌, drop, ◌==◌}
use Rattle.text.specs.declared.token.Token.{Token}
use Rattle.text.specs.declared.token.Token.TheVariants.{Bar, Symbol}

pub data Piece : Type 0 where
  bar : ℕ → Piece
  symbol : List ℕ → ℕ → Piece

abbrev pub blank : ℕ → Bool
blank b = b == 32 || b == 10

abbrev pub in_symbol : ℕ → Bool
in_symbol b = not (blank b) && not (b == 124)

abbrev pub joined_to : ℕ → ℕ → List Piece → List Piece
joined_to b at [] = symbol (b ∷ []) at ∷ []
joined_to b at (bar place ∷ ps) = symbol (b ∷ []) at ∷ bar place ∷ ps
joined_to b at (symbol bs place ∷ ps) =
    cond (place == at + 1) (symbol (b ∷ bs) at ∷ ps) (symbol (b ∷ []) at ∷ symbol bs place ∷ ps)

abbrev pub tokens : ℕ → List ℕ → List Piece
tokens at [] = []
tokens at (b ∷ bs) =
    cond (blank b) (tokens (at + 1) bs)
    (cond (b == 124) (bar at ∷ tokens (at + 1) bs) (joined_to b at (tokens (at + 1) bs)))

abbrev pub left_from : List ℕ → ℕ → List Piece
left_from text at = tokens at (drop at text)

abbrev pub piece_of : Token → Piece
piece_of (Bar at) = bar at
piece_of (Symbol bytes at) = symbol bytes.now at
