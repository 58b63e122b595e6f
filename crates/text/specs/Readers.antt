-- What a reader of a text has left, and what it gives.
--
-- left        the tokens of its text that it has not read
-- GivesNext   what a call gives: of the same text the first token that was left, or none where none was, and then the whole text is read
use Rattle.std.specs.Prelude.{◌≡◌, List, length, Option, IfNone}
use Rattle.std.specs.Iterator.{YieldsFirstBy}
use Rattle.text.specs.Tokens.{Piece, left_from, piece_of}
use Rattle.text.specs.declared.reader.Reader.{Reader}
use Rattle.text.specs.declared.token.Token.{Token}

abbrev pub left : Reader → List Piece
left r = left_from r.text.now r.pos

pub record GivesNext (r : Reader) (given : Option Token) (s : Reader) : Type 0 where
  pub text : s.text.now ≡ r.text.now
  pub yields : YieldsFirstBy piece_of left r given s
  pub ended : IfNone given (s.pos ≡ length s.text.now)
