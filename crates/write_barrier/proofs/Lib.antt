mod InOrder
mod Once
