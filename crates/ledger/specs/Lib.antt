-- METH005 and the plain ledger, the store's layout, and what each call answers and leaves. Read in this order.
pub mod Method
pub mod Table
pub mod Net
pub mod Band
pub mod Fill
pub mod Opening
pub mod Checks
pub mod Sizes
pub mod Ledger
pub mod Store
pub mod Calls
pub mod Engine
pub mod Demands
pub mod Marked
pub mod Threshold
