-- What each refusal tells a caller.
--
-- tells      a refusal's number, and the rule for the place in a chart where a chart can meet it
-- sentence   a refusal in words
use Rattle.harmony.specs.declared.refusal.Fault.TheVariants.{ChartStart, LineStart, SymbolStart, ChartEnd}
use Rattle.harmony.specs.declared.refusal.Notice.{Notice}
use Rattle.harmony.specs.declared.refusal.Refusal.{Refusal}
use Rattle.harmony.specs.declared.refusal.Refusal.TheVariants.{VoiceNumber, ImproperRange, FallingRange, NoRoot, UnknownQuality, MalformedBass, TooManyNotes, ForeignBass, NoRow, TooManyRows, BoardFull, NoSuchPlace, NoChord, ShortRowTable, ShortCostTable, ShortPitchSheet, ShortFigureLine, LongChart, MalformedHeading, ShortPage}
use Rattle.std.specs.Prelude.{ℕ, List, Some, None, codes}

abbrev pub tells : Refusal → Notice
tells VoiceNumber = record { number = 1; fault = Some ChartStart }
tells ImproperRange = record { number = 2; fault = Some ChartStart }
tells FallingRange = record { number = 3; fault = Some ChartStart }
tells NoRoot = record { number = 4; fault = Some SymbolStart }
tells UnknownQuality = record { number = 5; fault = Some SymbolStart }
tells MalformedBass = record { number = 6; fault = Some SymbolStart }
tells TooManyNotes = record { number = 7; fault = Some SymbolStart }
tells ForeignBass = record { number = 8; fault = Some SymbolStart }
tells NoRow = record { number = 9; fault = Some SymbolStart }
tells TooManyRows = record { number = 10; fault = Some SymbolStart }
tells BoardFull = record { number = 11; fault = Some SymbolStart }
tells NoSuchPlace = record { number = 12; fault = None }
tells NoChord = record { number = 13; fault = Some ChartEnd }
tells ShortRowTable = record { number = 14; fault = Some ChartEnd }
tells ShortCostTable = record { number = 15; fault = Some ChartEnd }
tells ShortPitchSheet = record { number = 16; fault = Some ChartEnd }
tells ShortFigureLine = record { number = 17; fault = Some ChartEnd }
tells LongChart = record { number = 18; fault = Some ChartStart }
tells MalformedHeading = record { number = 18; fault = Some LineStart }
tells ShortPage = record { number = 19; fault = Some ChartEnd }

abbrev pub sentence : Refusal → List ℕ
sentence VoiceNumber = codes "the ranges are not three to six"
sentence ImproperRange = codes "a pitch above 127, a low above its high, or a high more than 24 above its low"
sentence FallingRange = codes "a low or a high falls from a voice to the next"
sentence NoRoot = codes "the symbol does not begin with a letter A to G"
sentence UnknownQuality = codes "the quality is not in the list"
sentence MalformedBass = codes "the slash is not followed by exactly one letter A to G with at most one accidental"
sentence TooManyNotes = codes "the quality has more notes than there are voices"
sentence ForeignBass = codes "the bass is no class of the chord"
sentence NoRow = codes "the chord has no row"
sentence TooManyRows = codes "the chord has more than 256 rows"
sentence BoardFull = codes "64 chords stand"
sentence NoSuchPlace = codes "the place is not one of a standing chord"
sentence NoChord = codes "no chord stands"
sentence ShortRowTable = codes "the row table is shorter than needed"
sentence ShortCostTable = codes "the cost table is shorter than needed"
sentence ShortPitchSheet = codes "the pitch sheet is shorter than needed"
sentence ShortFigureLine = codes "the figure line is shorter than the measure's figures"
sentence LongChart = codes "the chart has more bytes than a chart may have"
sentence MalformedHeading = codes "a line of the chart's heading is malformed"
sentence ShortPage = codes "the listing is longer than the page"
