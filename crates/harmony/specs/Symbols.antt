-- Chord symbols: a root, a quality, and perhaps a slash with a bass.
--
-- letter       the class of a root letter
-- note         a note's name at the front of a text: its class, and the text behind it
-- named        what a note's name of the code says
-- Reading      a symbol taken apart
-- reading      what a symbol of the code says
-- symbol_of    what a symbol says, or why it is none
-- chord_with   the chord of a reading in so many voices, or why there is none
-- chord_of     both: every condition over the whole symbol before the next
use Rattle.std.specs.Prelude.{ℕ, ◌+◌, cond, List, [], ◌∷◌, ◌++◌, map, length, take, Some, None, Ok, Err, Option, Result, ◌==◌, nat_le, slice_index}
use Rattle.std.specs.Borrow.{Bor}
use Rattle.harmony.specs.Chords.{Harmony, tally}
use Rattle.harmony.specs.Pitches.{around}
use Rattle.harmony.specs.Qualities.{quality_of, tones_of}
use Rattle.harmony.specs.declared.pitch.PitchClass.{PitchClass}
use Rattle.harmony.specs.declared.quality.Quality.{Quality}
use Rattle.harmony.specs.declared.refusal.Refusal.{Refusal}
use Rattle.harmony.specs.declared.refusal.Refusal.TheVariants.{NoRoot, UnknownQuality, MalformedBass, TooManyNotes, ForeignBass}
use Rattle.harmony.specs.declared.symbol.NoteName.{NoteName}
use Rattle.harmony.specs.declared.symbol.Symbol.{Symbol}
use Rattle.std.specs.Option.{option_map, unwrap_or}

-- C D E F G A B, by their codes
abbrev pub letter : ℕ → Option ℕ
letter b =
    cond (b == 67) (Some 0)
    (cond (b == 68) (Some 2)
    (cond (b == 69) (Some 4)
    (cond (b == 70) (Some 5) (cond (b == 71) (Some 7) (cond (b == 65) (Some 9) (cond (b == 66) (Some 11) None))))))

pub record Note : Type 0 where
  pub class : ℕ
  pub rest : List ℕ

-- behind a letter: # adds 1 and b takes 1 off, round the twelve
abbrev pub accidental : ℕ → List ℕ → Note
accidental c [] = record { class = c; rest = [] }
accidental c (b ∷ bs) =
    cond (b == 35) (record { class = around (c + 1); rest = bs })
    (cond (b == 98) (record { class = around (c + 11); rest = bs }) (record { class = c; rest = b ∷ bs }))

-- a note's name of the code
abbrev pub named : NoteName → Note
named n = record { class = n.class.index; rest = n.rest.now }

abbrev pub noted : Option ℕ → List ℕ → Option Note
noted None bs = None
noted (Some c) bs = Some (accidental c bs)

abbrev pub note : List ℕ → Option Note
note [] = None
note (b ∷ bs) = noted (letter b) bs

-- the bytes before the first slash, and those behind it where there is one
abbrev pub before_slash : List ℕ → List ℕ
before_slash [] = []
before_slash (b ∷ bs) = cond (b == 47) [] (b ∷ before_slash bs)

abbrev pub behind_slash : List ℕ → Option (List ℕ)
behind_slash [] = None
behind_slash (b ∷ bs) = cond (b == 47) (Some bs) (behind_slash bs)

-- what a slice of the code holds, where there is one
abbrev pub held : Option (Bor (List ℕ)) → Option (List ℕ)
held slice = option_map (λ s. s.now) slice

pub record Reading : Type 0 where
  pub root : ℕ
  pub quality : Quality
  pub bass : Option ℕ

abbrev pub indices : Option PitchClass → Option ℕ
indices class = option_map (λ c. c.index) class

abbrev pub reading : Symbol → Reading
reading s = record { root = s.root.index; quality = s.quality; bass = indices s.bass }

-- a note's name and nothing behind it
abbrev pub alone : Option Note → Option ℕ
alone None = None
alone (Some n) = cond (length n.rest == 0) (Some n.class) None

-- a bass that cannot be read is malformed
abbrev pub sole : Option ℕ → Result (Option ℕ) Refusal
sole None = Err MalformedBass
sole (Some b) = Ok (Some b)

-- the bass that stands behind a slash, where there is a slash
abbrev pub slashed : Option (List ℕ) → Result (Option ℕ) Refusal
slashed None = Ok None
slashed (Some bs) = sole (alone (note bs))

abbrev pub with_bass : ℕ → Quality → Result (Option ℕ) Refusal → Result Reading Refusal
with_bass root quality (Err e) = Err e
with_bass root quality (Ok bass) = Ok (record { root = root; quality = quality; bass = bass })

abbrev pub with_quality : ℕ → Option Quality → Option (List ℕ) → Result Reading Refusal
with_quality root None behind = Err UnknownQuality
with_quality root (Some quality) behind = with_bass root quality (slashed behind)

abbrev pub with_root : Option Note → Result Reading Refusal
with_root None = Err NoRoot
with_root (Some n) = with_quality n.class (quality_of (before_slash n.rest)) (behind_slash n.rest)

abbrev pub symbol_of : List ℕ → Result Reading Refusal
symbol_of symbol = with_root (note symbol)

-- the classes of some intervals above a root
abbrev pub classes_above : ℕ → List ℕ → List ℕ
classes_above root intervals = map (λ interval. around (root + interval)) intervals

-- the classes that n voices sing: the notes, and then the doubled ones as far as needed
abbrev pub sung : ℕ → Reading → List ℕ
sung n s = classes_above s.root (take n ((tones_of s.quality).notes ++ (tones_of s.quality).doubled))

abbrev pub bass_of : Reading → ℕ
bass_of s = unwrap_or s.bass s.root

-- the chord of these counts, where a voice sings its bass
abbrev pub settled : List ℕ → ℕ → Result Harmony Refusal
settled counts bass = cond (nat_le 1 (slice_index counts bass)) (Ok (record { counts = counts; bass = bass })) (Err ForeignBass)

abbrev pub chord_with : ℕ → Reading → Result Harmony Refusal
chord_with n s = cond (nat_le (length (tones_of s.quality).notes) n) (settled (tally (sung n s)) (bass_of s)) (Err TooManyNotes)

abbrev pub read : Result Reading Refusal → ℕ → Result Harmony Refusal
read (Err e) n = Err e
read (Ok s) n = chord_with n s

abbrev pub chord_of : List ℕ → ℕ → Result Harmony Refusal
chord_of symbol n = read (symbol_of symbol) n
