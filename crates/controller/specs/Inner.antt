-- What the private functions do, on the values as they are held: a means of proof, not what a reader must believe. A
-- file for each module of src/. The function `f` has `f_of`, its whole answer; `fGiven`, the same with answers of its
-- callees or its tests given; with another word behind its name, a part of it; `Fits`, what keeps it in range.
pub mod Parts
pub mod Ramp
pub mod Words
pub mod Motion
pub mod Watch
pub mod Start
pub mod Carry
pub mod Dwell
pub mod Entry
pub mod Settings
pub mod Numbers
pub mod Orders
pub mod Settle
pub mod Status
pub mod LineEnd
pub mod Power
pub mod Turned
