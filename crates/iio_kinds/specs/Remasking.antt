-- The answer to a REMASK at one device.
use Rattle.std.specs.Prelude.{ℕ, length, Result}
use Rattle.iio_base.specs.Refusals.{first_refusal, unless_refused}
use Rattle.iio_text.specs.declared.errors.Errno.{Errno}
use Rattle.iio_layout.specs.Shape.{ShapeRecord}
use Rattle.iio_core.specs.Calls.{remask_refusals}
use Rattle.iio_core.specs.Machine.{MemberId, Station, scans_in}

-- how many scans waited for the member, or why it can't get that mask
abbrev pub remask_answer : ShapeRecord → Station → MemberId → ℕ → Result ℕ Errno
remask_answer shape st id mask = unless_refused (length (scans_in id st.members)) (first_refusal (remask_refusals shape st id mask))
