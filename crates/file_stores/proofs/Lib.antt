pub mod StoreLeft
