pub mod Kind
pub mod Place
pub mod Cell
pub mod Entry
pub mod Row
