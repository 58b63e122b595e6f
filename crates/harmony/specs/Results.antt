-- What a call answers, seen as plain data.
--
-- result_map   the answer with f of the value in place of the value; a refusal stays as it is
use Rattle.std.specs.Prelude.{Result}
use Rattle.std.specs.Result.{result_map_both}

abbrev pub result_map : {T U E : Type 0} → (T → U) → Result T E → Result U E
result_map f answer = result_map_both f (λ e. e) answer
