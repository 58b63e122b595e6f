-- The conditions of a chord, one after the other.
use Rattle.std.proofs.Common.{◌≡◌, ℕ, ◌≤◌, leb, List, ◌++◌, length, get_or, take, Ok, Err, sym, ◌∙◌}
use Rattle.harmony.specs.Chords.{tally}
use Rattle.harmony.specs.Qualities.{tones_of}
use Rattle.harmony.specs.Symbols.{Reading, bass_of, chord_with, classes_above, settled, sung}
use Rattle.harmony.specs.declared.refusal.Refusal.TheVariants.{ForeignBass, TooManyNotes}
use Rattle.std.proofs.lemmas.Bool.{cond-true, le-leb}

-- a reading whose notes have voices enough, with its counts and its lowest class
module _ (n : ℕ) (s : Reading) (notes doubled counts : List ℕ) (bass : ℕ) (notes_are : notes ≡ (tones_of s.quality).notes) (doubled_are : doubled ≡ (tones_of s.quality).doubled) (counted : counts ≡ tally (classes_above s.root (take n (notes ++ doubled)))) (lowest : bass ≡ bass_of s) (few : length notes ≤ n) where
  sung_is : tally (sung n s) ≡ counts
  sung_is = sym (rw (notes_are, doubled_are) at counted)

  chord_is : chord_with n s ≡ settled counts bass
  chord_is =
      cond-true (leb (length (tones_of s.quality).notes) n) (settled (tally (sung n s)) (bass_of s)) (Err TooManyNotes)
      (rw notes_are at (le-leb (length notes) n few))
      ∙ (λ i. settled (sung_is i) (sym lowest i))

  pub chord_foreign : get_or counts bass 0 ≡ 0 → Err ForeignBass ≡ chord_with n s
  chord_foreign e = sym (chord_is ∙ rw e)

  pub chord_accepted : 1 ≤ get_or counts bass 0 → Ok (record { counts = counts; bass = bass }) ≡ chord_with n s
  chord_accepted h = sym (chord_is ∙ rw (le-leb 1 (get_or counts bass 0) h))
