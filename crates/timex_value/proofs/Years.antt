-- Years that there are.
use Rattle.timex_value.specs.declared.shape.Year.{Year}
use Rattle.timex_value.specs.declared.shape.Year.TheVariants.{Known, Decade, Century, Unknown}
use Rattle.timex_value.specs.Text.{IsYearWritten}
use Rattle.timex_value.specs.Years.{HasYear}

-- the number of a year that there is has the digits that are written
pub year_written : (year : Year) → HasYear year → IsYearWritten year
year_written (Known y) h = h.1
year_written (Decade d) h = h
year_written (Century c) h = h
year_written Unknown h = h
