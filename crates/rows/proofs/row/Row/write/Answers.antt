use Rattle.std.proofs.Common.{◌≡◌, ◌++◌, map, length, take, drop, refl, ap, ◌∙◌, arith, rules}
use Rattle.std.specs.List.{take-map}
use Rattle.harmony.proofs.Mapped.{mapped_all}
use Rattle.rows.proofs.row.Row.write.Goals as goal

pub returns : goal.returns
returns c =
    let row = c.args.self.now in
    let n = length row.ranges.now in
    let told = c.map-semitones.ensures.items in
    let all : c.map-semitones.result ≡ map (λ p. p.semitones) row.pitches =
    mapped_all (λ p. p.semitones) row.pitches c.map-semitones.result (omega (arith, told.long, row.full)) (λ i d h. let k = told.at i d 0 (omega (arith, h, row.full)) in search rules) in
    (refl, omega arith, ap (λ t. t ++ drop n c.args.part.now) (c.copy_from_slice.ensures.after ∙ ap (take n) all ∙ take-map (λ p. p.semitones) n row.pitches))
