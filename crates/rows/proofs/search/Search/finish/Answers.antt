use Rattle.std.proofs.Common.{◌≡◌, true, [], ◌∷◌, map, length, sym, ap, ◌∙◌, subst, arith, rules}
use Rattle.harmony.specs.Chords.{harmony}
use Rattle.harmony.specs.Ranges.{bounds}
use Rattle.harmony.specs.Results.{result_map}
use Rattle.rows.specs.Arrangements.{IsRow, semitones_of}
use Rattle.rows.specs.Enumeration.{In, all_zero}
use Rattle.rows.specs.Growth.{Completed, footing_of}
use Rattle.rows.specs.Searches.{rows_beyond}
use Rattle.rows.proofs.Completing.{grown_top}
use Rattle.rows.proofs.Growing.{completed_none, grown_one, row_at_top}
use Rattle.rows.proofs.search.Search.finish.Goals as goal

pub returns-then-not-is_sung-clause-found : goal.returns-then-not-is_sung-clause-found
returns-then-not-is_sung-clause-found c =
    let climb = c.args.climb in
    rw (grown_top c.args.self.now.ranges.now climb.voices (semitones_of climb.voices climb.pitches) (footing_of climb.footing) climb.left (omega (arith, c.requires.top)))
    (completed_none _ _ _ _ _ _ (sym c.is_sung.ensures ∙ c.if-not-is_sung.true) c.args.found.now.few)

pub invariant_of-row : goal.invariant_of-row
invariant_of-row c =
    let climb = c.args.climb in
    let ranges = c.args.self.now.ranges.now in
    let chord = c.args.self.now.chord.now in
    let vs = map bounds ranges in
    let chosen = semitones_of climb.voices climb.pitches in
    let sung : all_zero climb.left ≡ true = sym c.is_sung.ensures ∙ c.if-not-is_sung.false in
    let top = grown_top ranges climb.voices chosen (footing_of climb.footing) climb.left (omega (arith, c.requires.top)) in
    let row : IsRow vs (harmony chord) (semitones_of (length ranges) climb.pitches) =
    subst (λ n. IsRow vs (harmony chord) (semitones_of n climb.pitches)) c.requires.top
    (row_at_top chosen (footing_of climb.footing) climb.left vs (harmony chord) chord.full sung (λ ps h. c.requires.sought ps (subst (In ps) (sym top) h))) in
    record { full = search rules; few = c.args.self.now.few; ranged = row.arranged.ranges; ascending = row.ascending; classes = row.arranged.classes }

pub returns-clause-found : goal.returns-clause-found
returns-clause-found c =
    let climb = c.args.climb in
    let ranges = c.args.self.now.ranges.now in
    let chosen = semitones_of climb.voices climb.pitches in
    let sung : all_zero climb.left ≡ true = sym c.is_sung.ensures ∙ c.if-not-is_sung.false in
    let one : rows_beyond (map bounds ranges) climb ≡ semitones_of (length ranges) climb.pitches ∷ [] =
    grown_top ranges climb.voices chosen (footing_of climb.footing) climb.left (omega (arith, c.requires.top)) ∙ grown_one chosen (footing_of climb.footing) climb.left sung
    ∙ ap (λ n. semitones_of n climb.pitches ∷ []) c.requires.top in
    subst (λ rs. Completed (length ranges) c.args.found.now.rows rs c.args.found.now.table.now c.push.new.self.table.now (result_map (λ _. c.push.new.self.rows) c.push.result)) (sym one)
    c.push.ensures.found
