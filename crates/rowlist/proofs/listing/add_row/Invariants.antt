use Rattle.std.proofs.Common.{◌≡◌, ◌∷◌, ◌++◌, take, decimal, string_bytes}
use Rattle.std.specs.List.{flat_map}
use Rattle.rowlist.proofs.listing.add_row.Given as goal

abbrev pub invariant-loop-pitch : goal.invariant-loop-pitch
invariant-loop-pitch l =
    string_bytes l.page ≡ string_bytes l.initial.page ++ flat_map (λ q. 32 ∷ decimal q) (take l.pitch-index l.others)
