-- The error numbers that answers carry. (Linux, errno-base.h and errno.h.)
use Rattle.std.specs.Prelude.{ℕ}
use Rattle.iio_text.specs.declared.errors.Errno.{Errno}
use Rattle.iio_text.specs.declared.errors.Errno.TheVariants.{ENOENT, EIO, E2BIG, EBADF, EAGAIN, EACCES, EBUSY, ENODEV, EINVAL, EFBIG, ENOSPC, ERANGE, ENOSYS}

-- the kernel's number of an error
abbrev pub errno_number : Errno → ℕ
errno_number ENOENT = 2
errno_number EIO = 5
errno_number E2BIG = 7
errno_number EBADF = 9
errno_number EAGAIN = 11
errno_number EACCES = 13
errno_number EBUSY = 16
errno_number ENODEV = 19
errno_number EINVAL = 22
errno_number EFBIG = 27
errno_number ENOSPC = 28
errno_number ERANGE = 34
errno_number ENOSYS = 38
