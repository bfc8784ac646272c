mod Parts
mod Longs
mod Rising
mod Written
mod NodeParts
mod StemParts
mod RowOfEntries
mod OnePage
