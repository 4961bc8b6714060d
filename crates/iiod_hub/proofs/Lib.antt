mod HandleLaws
mod OpenLaws
mod RemaskLaws
mod SeatLaws
